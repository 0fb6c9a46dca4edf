-- Escapes and quoted texts as the scanner reads them.
use Rattle.std.specs.Prelude.{ℕ, ◌<◌, ◌≤◌, ◌≡◌, ◌⊎◌, Bool, List, [], ◌∷◌, ◌++◌, chars}
use Rattle.ef_base.specs.Escape.{Escape, Written}
use Rattle.ef_token.specs.Lexeme.{IsIllegalEscape}
use Rattle.ef_scan.specs.declared.cursor.Cursor.{Cursor}
use Rattle.ef_scan.specs.declared.escape.Written.{Written as Found}
use Rattle.ef_scan.specs.declared.escape.Written.TheVariants as written
use Rattle.ef_scan.specs.Cursors.{IsStep, IsBehind}

-- the second stands behind these characters and the rest of an escape, which they begin, at which the first stands
abbrev pub IsEscape : List ℕ → Cursor → ℕ → Cursor → Type 0
IsEscape begun first c second =
    (front : List ℕ) × IsBehind first second front × Escape c (begun ++ front) (chars second.rest.now)

-- these characters and the text behind them begin with no escape
abbrev pub HasNoEscape : List ℕ → List ℕ → Type 0
HasNoEscape begun text = (c : ℕ) (front rest : List ℕ) → begun ++ text ≡ front ++ rest → Escape c front rest → ⊥

-- the number, or the least that is no character's where the number is beyond them
abbrev pub IsCapped : ℕ → ℕ → Type 0
IsCapped n v = ((v ≡ n) × (n < 1114112)) ⊎ ((v ≡ 1114112) × (1114112 ≤ n))

-- what a text behind `\` begins with
abbrev pub IsEscaped : Cursor → Found → Type 0
IsEscaped first (written.Legal c second) = IsEscape [] first c second
IsEscaped first (written.Illegal second) = (c : ℕ) × IsStep first c second × IsIllegalEscape (c ∷ chars second.rest.now)
IsEscaped first written.Ends = chars first.rest.now ≡ []

-- a character of a text in which some are special
abbrev pub IsWritten : (ℕ → Bool) → Cursor → Found → Type 0
IsWritten special first (written.Legal c second) = (front : List ℕ) × IsBehind first second front × Written special c front (chars second.rest.now)
IsWritten special first (written.Illegal second) = (c : ℕ) × IsBehind first second (92 ∷ c ∷ []) × IsIllegalEscape (c ∷ chars second.rest.now)
IsWritten special first written.Ends = (chars first.rest.now ≡ []) ⊎ (chars first.rest.now ≡ 92 ∷ [])

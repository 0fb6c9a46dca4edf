-- Quoted texts as the scanner reads them.
use Rattle.std.specs.Prelude.{ℕ, ◌≡◌, List, ◌++◌, length, map, chars, encode_utf8_all, Option, Some}
use Rattle.ef_token.specs.Lexeme.{Quoted}
use Rattle.ef_token.specs.ScanFaults.{HasNone}
use Rattle.ef_scan.specs.declared.cursor.Cursor.{Cursor}
use Rattle.ef_scan.specs.declared.quoted.Inner.{Inner}
use Rattle.ef_scan.specs.declared.quoted.Inner.TheVariants as inner
use Rattle.ef_scan.specs.Cursors.{IsBehind}

-- what a text behind an opening quote begins with
abbrev pub IsInner : ℕ → Cursor → Inner → Type 0
IsInner quote first (inner.Plain text count second) =
    (cs : List ℕ) × (text.now ≡ encode_utf8_all cs) × (count ≡ length cs) × (front : List ℕ) × IsBehind first second front × Quoted quote (map Some cs) front (chars second.rest.now)
IsInner quote first (inner.Legal found second) =
    (front : List ℕ) × IsBehind first second front × Quoted quote (map Some found.items) front (chars second.rest.now)
IsInner quote first inner.Illegal = (cs : List (Option ℕ)) × (front rest : List ℕ) × (chars first.rest.now ≡ front ++ rest) × Quoted quote cs front rest × HasNone cs
IsInner quote first inner.Open = (cs : List (Option ℕ)) (front rest : List ℕ) → chars first.rest.now ≡ front ++ rest → Quoted quote cs front rest → ⊥

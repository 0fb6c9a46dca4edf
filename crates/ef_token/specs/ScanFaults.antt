-- The scanning faults by their codes: where in a text each begins, and how much is passed over behind it.
use Rattle.std.specs.Prelude.{ℕ, ◌^◌, ◌<◌, ◌≤◌, ◌≡◌, ◌⊎◌, true, false, List, [], ◌∷◌, ◌++◌, length, Option, None}
use Rattle.ef_base.specs.Characters.{Stops, is_digit}
use Rattle.ef_base.specs.Cut.{Longest}
use Rattle.ef_base.specs.FaultTable as table
use Rattle.ef_base.specs.Taken.{Begins}
use Rattle.ef_token.specs.Letters.{is_quote, begins_gap}
use Rattle.ef_token.specs.Numerals.{Digits, is_digit_of, value_of, IsBase}
use Rattle.ef_token.specs.Lexeme.{Lexeme, atom, integer, Quoted, IsIllegalEscape, IsLexeme, EndsForm}

-- one of them is none
abbrev pub HasNone : List (Option ℕ) → Type 0
HasNone [] = ⊥
HasNone (None ∷ cs) = Unit {0}
HasNone (c ∷ cs) = HasNone cs

pub data Fails : ℕ → List ℕ → Type 0 where
  -- a quoted text is not closed in the file
  unterminated : (quote : ℕ) (more : List ℕ) → is_quote quote ≡ true
      → ((cs : List (Option ℕ)) (inner rest : List ℕ) → more ≡ inner ++ rest → Quoted quote cs inner rest → ⊥) → Fails table.unterminated (quote ∷ more)
  -- an illegal escape in a quoted text, or behind `$`
  illegal_in_quotes : (quote : ℕ) (cs : List (Option ℕ)) (inner rest : List ℕ) → is_quote quote ≡ true → Quoted quote cs inner rest → HasNone cs
      → Fails table.illegal_escape (quote ∷ (inner ++ rest))
  illegal_character : (more : List ℕ) → IsIllegalEscape more → Fails table.illegal_escape (36 ∷ 92 ∷ more)
  -- an atom of more than 255 characters
  long_atom : (chars front rest : List ℕ) → IsLexeme (atom chars) front rest → Longest IsLexeme front rest → 255 < length chars → Fails table.atom_too_long (front ++ rest)
  -- a number before `#` that is no base
  illegal_base : (digits more : List ℕ) → Digits 10 digits → (IsBase (value_of 10 digits) → ⊥) → Fails table.illegal_base (digits ++ 35 ∷ more)
  -- no digit of the base behind `#`
  no_digit : (digits more : List ℕ) → Digits 10 digits → IsBase (value_of 10 digits) → Stops (is_digit_of (value_of 10 digits)) more
      → Fails table.illegal_number (digits ++ 35 ∷ more)
  -- `$` ends the file
  lone_dollar : Fails table.lone_dollar (36 ∷ [])
  -- decimal digits, a dot and a digit
  float : (digits : List ℕ) (d : ℕ) (more : List ℕ) → Digits 10 digits → is_digit d ≡ true → Fails table.float (digits ++ 46 ∷ d ∷ more)
  -- an integer beyond 2 ^ 127 - 1
  large : (n : ℕ) (front rest : List ℕ) → IsLexeme (integer n) front rest → Longest IsLexeme front rest → 2 ^ 127 ≤ n → Fails table.integer_too_large (front ++ rest)
  -- `~`
  sigil : (more : List ℕ) → Fails table.sigil (126 ∷ more)
  -- three double quotes
  triple_quotes : (more : List ℕ) → Fails table.triple_quotes (34 ∷ 34 ∷ 34 ∷ more)

abbrev pub IsFaultless : List ℕ → Type 0
IsFaultless text = (code : ℕ) → Fails code text → ⊥

-- no lexeme is a front of the text
abbrev pub HasNoLexeme : List ℕ → Type 0
HasNoLexeme text = (l : Lexeme) (front rest : List ℕ) → text ≡ front ++ rest → IsLexeme l front rest → ⊥

-- the least code of a fault that begins here; an illegal character where there is none, and no lexeme begins with a
-- character that is no gap's
abbrev pub IsFault : ℕ → List ℕ → Type 0
IsFault code text =
    (Fails code text × ((other : ℕ) → Fails other text → code ≤ other))
    ⊎ ((code ≡ table.illegal_character) × IsFaultless text × HasNoLexeme text × Begins begins_gap false text)

-- the front ends with the first dot that ends a form; it is all of the text where no dot does
pub data Skips : List ℕ → List ℕ → Type 0 where
  to_end : Skips [] []
  to_dot : (rest : List ℕ) → EndsForm rest → Skips (46 ∷ []) rest
  over : (c : ℕ) (cs rest : List ℕ) → (c ≡ 46 → EndsForm (cs ++ rest) → ⊥) → Skips cs rest → Skips (c ∷ cs) rest

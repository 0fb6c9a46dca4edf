-- Numerals as the scanner reads them.
use Rattle.std.specs.Prelude.{ℕ, ◌^◌, ◌<◌, ◌≤◌, ◌≡◌, ◌⊎◌, true, List, [], ◌∷◌, chars, Option, Some, None}
use Rattle.std.specs.Char.{digit_value}
pub use Rattle.ef_token.specs.Numerals.{Halts}
use Rattle.ef_token.specs.Numerals.{Digits, is_digit_of, value_of}
use Rattle.ef_scan.specs.declared.cursor.Cursor.{Cursor}
use Rattle.ef_scan.specs.declared.number.Number.{Number}
use Rattle.ef_scan.specs.Cursors.{IsStep, IsBehind}

-- the second stands behind a digit of this value
pub record IsDigit (base : ℕ) (first : Cursor) (digit : ℕ) (second : Cursor) : Type 0 where
  pub c : ℕ
  pub step : IsStep first c second
  pub is_digit : is_digit_of base c ≡ true
  pub value : digit ≡ digit_value c

-- the second stands behind a digit of this value, or behind an underscore and such a digit
pub record IsNext (base : ℕ) (first : Cursor) (digit : ℕ) (second : Cursor) : Type 0 where
  pub c : ℕ
  pub front : List ℕ
  pub is : (front ≡ c ∷ []) ⊎ (front ≡ 95 ∷ c ∷ [])
  pub behind : IsBehind first second front
  pub is_digit : is_digit_of base c ≡ true
  pub value : digit ≡ digit_value c

-- the number, or one that is not below 2 ^ 127
abbrev pub IsValue : ℕ → Option ℕ → Type 0
IsValue n None = 2 ^ 127 ≤ n
IsValue n (Some v) = (v ≡ n) × (n < 2 ^ 127)

-- all digits at the front of a text
pub record IsNumber (base : ℕ) (first : Cursor) (number : Number) : Type 0 where
  pub front : List ℕ
  pub behind : IsBehind first number.behind front
  pub digits : Digits base front
  pub value : IsValue (value_of base front) number.value
  pub halts : Halts base (chars number.behind.rest.now)

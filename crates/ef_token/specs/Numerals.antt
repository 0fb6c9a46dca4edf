-- Numerals to a base from 2 to 36: digits, then small or capital letters, with single underscores between.
use Rattle.std.specs.Prelude.{ℕ, ◌+◌, ◌*◌, ◌≤◌, ◌≡◌, ◌==◌, Bool, true, false, List, [], ◌∷◌, nat_lt, if◌then◌else◌}
use Rattle.std.specs.Char.{digit_value}
use Rattle.ef_base.specs.Characters.{Stops}

-- a digit below the base; `digit_value` is 36 where the character is neither digit nor letter
abbrev pub is_digit_of : ℕ → ℕ → Bool
is_digit_of base c = nat_lt (digit_value c) base

pub data Digits (base : ℕ) : List ℕ → Type 0 where
  last : (d : ℕ) → is_digit_of base d ≡ true → Digits base (d ∷ [])
  next : (d : ℕ) (ds : List ℕ) → is_digit_of base d ≡ true → Digits base ds → Digits base (d ∷ ds)
  underscore : (d : ℕ) (ds : List ℕ) → is_digit_of base d ≡ true → Digits base ds → Digits base (d ∷ 95 ∷ ds)

-- the text goes on with no digit of the base, and with no underscore and a digit
abbrev pub Halts : ℕ → List ℕ → Type 0
Halts base [] = Unit {0}
Halts base (c ∷ cs) = (is_digit_of base c ≡ false) × (c ≡ 95 → Stops (is_digit_of base) cs)

-- the number that they spell, behind digits that spell n
abbrev pub value_from : ℕ → ℕ → List ℕ → ℕ
value_from base n [] = n
value_from base n (c ∷ cs) = if c == 95 then value_from base n cs else value_from base (base * n + digit_value c) cs

abbrev pub value_of : ℕ → List ℕ → ℕ
value_of base text = value_from base 0 text

abbrev pub IsBase : ℕ → Type 0
IsBase n = (2 ≤ n) × (n ≤ 36)

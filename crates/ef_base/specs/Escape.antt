-- How one character is written behind `$` and in quotes (Reference Manual, escape sequences).
use Rattle.std.specs.Prelude.{ℕ, ◌+◌, ◌*◌, ◌-◌, ◌%◌, ◌<◌, ◌≤◌, ◌≡◌, ◌⊎◌, ◌||◌, ◌==◌, Bool, true, false, List, [], ◌∷◌, ◌++◌, length, if◌then◌else◌, Option, Some, None}
use Rattle.ef_base.specs.Characters.{Each, Stops, is_within, is_digit}

abbrev pub is_octal : ℕ → Bool
is_octal c = is_within 48 55 c

abbrev pub is_hex : ℕ → Bool
is_hex c = is_digit c || is_within 97 102 c || is_within 65 70 c

abbrev pub digit_value : ℕ → ℕ
digit_value c = if is_digit c then c - 48 else (if is_within 97 102 c then c - 87 else c - 55)

-- the number that digits spell to a base, behind digits that spell n
abbrev pub value_after : ℕ → ℕ → List ℕ → ℕ
value_after base n [] = n
value_after base n (c ∷ cs) = value_after base (base * n + digit_value c) cs

-- a code from 0 to 16#10FFFF that is no surrogate
abbrev pub IsCharacter : ℕ → Type 0
IsCharacter c = (c < 55296) ⊎ ((57344 ≤ c) × (c < 1114112))

-- the letters that stand for a control character, a space or a deletion
abbrev pub named : ℕ → Option ℕ
named c =
    if c == 98 then Some 8 else if c == 100 then Some 127 else if c == 101 then Some 27 else if c == 102 then Some 12
    else if c == 110 then Some 10 else if c == 114 then Some 13 else if c == 115 then Some 32 else if c == 116 then Some 9
    else if c == 118 then Some 11 else None

-- the character that a text behind `\`, with this rest behind it, stands for
pub data Escape : ℕ → List ℕ → List ℕ → Type 0 where
  by_letter : (letter c : ℕ) (rest : List ℕ) → named letter ≡ Some c → Escape c (letter ∷ []) rest
  -- as many octal digits as there are, up to three
  by_octal : (ds rest : List ℕ) → 1 ≤ length ds → Each is_octal ds → (length ds ≡ 3) ⊎ ((length ds < 3) × Stops is_octal rest)
      → Escape (value_after 8 0 ds) ds rest
  by_two : (a b : ℕ) (rest : List ℕ) → Each is_hex (a ∷ b ∷ []) → Escape (value_after 16 0 (a ∷ b ∷ [])) (120 ∷ a ∷ b ∷ []) rest
  by_braces : (ds rest : List ℕ) → 1 ≤ length ds → Each is_hex ds → IsCharacter (value_after 16 0 ds)
      → Escape (value_after 16 0 ds) (120 ∷ 123 ∷ (ds ++ 125 ∷ [])) rest
  by_control : (c : ℕ) (rest : List ℕ) → (is_within 64 95 c || is_within 97 122 c) ≡ true → Escape (c % 32) (94 ∷ c ∷ []) rest
  by_question : (rest : List ℕ) → Escape 127 (94 ∷ 63 ∷ []) rest
  -- any other character stands for itself
  itself : (c : ℕ) (rest : List ℕ) → named c ≡ None → (is_octal c || c == 120 || c == 94) ≡ false → Escape c (c ∷ []) rest

-- the text is the character where it isn't one of these, or `\` and an escape
pub data Written (special : ℕ → Bool) : ℕ → List ℕ → List ℕ → Type 0 where
  plainly : (c : ℕ) (rest : List ℕ) → (special c || c == 92) ≡ false → Written special c (c ∷ []) rest
  escaped : (c : ℕ) (text rest : List ℕ) → Escape c text rest → Written special c (92 ∷ text) rest

-- the same for characters one after another
abbrev pub WrittenAll : (ℕ → Bool) → List ℕ → List ℕ → List ℕ → Type 0
WrittenAll special [] text rest = text ≡ []
WrittenAll special (c ∷ cs) text rest =
    (front more : List ℕ) × (text ≡ front ++ more) × Written special c front (more ++ rest) × WrittenAll special cs more rest

-- Classes of characters, by their codes, and texts of them.
use Rattle.std.specs.Prelude.{ℕ, ◌+◌, ◌*◌, ◌-◌, ◌≡◌, ◌==◌, ◌&&◌, ◌||◌, nat_le, Bool, true, false, List, [], ◌∷◌}

abbrev pub is_within : ℕ → ℕ → ℕ → Bool
is_within low high c = nat_le low c && nat_le c high

abbrev pub is_digit : ℕ → Bool
is_digit c = is_within 48 57 c

abbrev pub is_lower : ℕ → Bool
is_lower c = is_within 97 122 c

-- a capital letter or `_`, with which a variable begins
abbrev pub is_upper : ℕ → Bool
is_upper c = is_within 65 90 c || c == 95

-- what a name goes on with: letters, digits, `_` and `@`
abbrev pub is_name_part : ℕ → Bool
is_name_part c = is_lower c || is_upper c || is_digit c || c == 64

-- white space; the second range are the control characters of Latin-1 and its no-break space
abbrev pub is_white : ℕ → Bool
is_white c = nat_le c 32 || is_within 128 160 c

-- every character is of the class
abbrev pub Each : (ℕ → Bool) → List ℕ → Type 0
Each p [] = Unit {0}
Each p (c ∷ cs) = (p c ≡ true) × Each p cs

-- the text is empty, or its first character is of another class
abbrev pub Stops : (ℕ → Bool) → List ℕ → Type 0
Stops p [] = Unit {0}
Stops p (c ∷ cs) = p c ≡ false

-- one character of a class, and then any of another
abbrev pub BeginsAndGoesOn : (ℕ → Bool) → (ℕ → Bool) → List ℕ → Type 0
BeginsAndGoesOn p q [] = ⊥
BeginsAndGoesOn p q (c ∷ cs) = (p c ≡ true) × Each q cs

-- the number that decimal digits spell, behind digits that spell n
abbrev pub number_after : ℕ → List ℕ → ℕ
number_after n [] = n
number_after n (c ∷ cs) = number_after (10 * n + (c - 48)) cs

-- What is written for a character is read as that character, and is ASCII.
use Rattle.std.specs.Prelude.{ℕ, ◌+◌, ◌*◌, ◌<◌, ◌≤◌, ◌^◌, ◌==◌, ◌||◌, ◌≡◌, ◌⊎◌, Bool, true, false, List, [], ◌∷◌, ◌++◌, length, nat_lt, if◌then◌else◌, None, refl}
use Rattle.std.specs.Fmt.{digits}
use Rattle.std.specs.Str.Parse.{AllDigits, digits_value_after}
use Rattle.std.proofs.Common.{ap, ◌∙◌, sym, subst, arith, inl, inr}
use Rattle.std.proofs.lemmas.Bool.Decides.{nat_tests}
use Rattle.std.proofs.lemmas.Fmt.{digits_is_IsNumeral}
use Rattle.ef_base.specs.Characters.{Each}
use Rattle.ef_base.specs.Escape.{IsCharacter, Escape, Written, by_braces, itself, plainly, named, is_octal, is_hex, digit_value, value_after}
use Rattle.ef_base.specs.Escape as escape
use Rattle.ef_base.specs.Escaped.{is_quote, hex_escape, escaped}
use Rattle.ef_base.proofs.Classes.{each_append, each_weaker, is_ascii}

-- ---- hexadecimal digits

each_hex : (ds : List ℕ) → AllDigits 16 ds → Each is_hex ds
each_hex [] h = tt
each_hex (d ∷ ds) h = (one d (h.0, tt), each_hex ds h.1)
  where
    one : (d : ℕ) → AllDigits 16 (d ∷ []) → is_hex d ≡ true
    one d h = grind (arith, nat_tests, h.0)

hex_value : (n : ℕ) (ds : List ℕ) → AllDigits 16 ds → value_after 16 n ds ≡ digits_value_after 16 n ds
hex_value n [] h = refl
hex_value n (d ∷ ds) h = hex_value (16 * n + digit_value d) ds h.1 ∙ ap (λ m. digits_value_after 16 m ds) (one n d (h.0, tt))
  where
    one : (n d : ℕ) → AllDigits 16 (d ∷ []) → 16 * n + digit_value d ≡ digits_value_after 16 n (d ∷ [])
    one n d h = grind (arith, nat_tests, h.0)

small_character : (c : ℕ) → IsCharacter c → c < 16 ^ 64
small_character c (inl low) = omega arith
small_character c (inr high) = omega (arith, high.1)

-- the digits spell the number
record SpellsHex (n : ℕ) (ds : List ℕ) : Type 0 where
  some : 1 ≤ length ds
  each : Each is_hex ds
  value : value_after 16 0 ds ≡ n

hex_spells : (c : ℕ) → IsCharacter c → SpellsHex c (digits 16 false c)
hex_spells c is =
    let digit = digits_is_IsNumeral 16 false (omega arith) (omega arith) c (small_character c is) in
    record { some = digit.0.0; each = each_hex (digits 16 false c) digit.0.1; value = hex_value 0 (digits 16 false c) digit.0.1 ∙ digit.1 }

-- ---- one character

by_hex : (c : ℕ) (rest : List ℕ) → IsCharacter c → Escape c (120 ∷ 123 ∷ (digits 16 false c ++ 125 ∷ [])) rest
by_hex c rest is =
    let ds = hex_spells c is in
    subst (λ (n : ℕ). Escape n (120 ∷ 123 ∷ (digits 16 false c ++ 125 ∷ [])) rest) ds.value
    (by_braces (digits 16 false c) rest ds.some ds.each (subst IsCharacter (sym ds.value) is))

pub hex_written : (special : ℕ → Bool) (c : ℕ) (rest : List ℕ) → IsCharacter c → Written special c (hex_escape c) rest
hex_written special c rest is = escape.escaped c (120 ∷ 123 ∷ (digits 16 false c ++ 125 ∷ [])) rest (by_hex c rest is)

-- a quote and `\` stand for themselves
abbrev IsSign : ℕ → Type 0
IsSign c = (c ≡ 39) ⊎ ((c ≡ 34) ⊎ (c ≡ 92))

sign : (c : ℕ) → (is_quote c || c == 92) ≡ true → IsSign c
sign c h = go (c == 39) refl (c == 34) refl
  where
    go : (a : Bool) → (c == 39) ≡ a → (b : Bool) → (c == 34) ≡ b → IsSign c
    go true e b f = inl (grind (arith, nat_tests))
    go false e true f = inr (inl (grind (arith, nat_tests)))
    go false e false f = inr (inr (grind (arith, nat_tests)))

unnamed : (c : ℕ) → IsSign c → named c ≡ None
unnamed c (inl e) = ap named e
unnamed c (inr (inl e)) = ap named e
unnamed c (inr (inr e)) = ap named e

other : (c : ℕ) → IsSign c → (is_octal c || c == 120 || c == 94) ≡ false
other c (inl e) = ap (λ c. is_octal c || c == 120 || c == 94) e
other c (inr (inl e)) = ap (λ c. is_octal c || c == 120 || c == 94) e
other c (inr (inr e)) = ap (λ c. is_octal c || c == 120 || c == 94) e

pub sign_written : (special : ℕ → Bool) (c : ℕ) (rest : List ℕ) → (is_quote c || c == 92) ≡ true → Written special c (92 ∷ c ∷ []) rest
sign_written special c rest h = escape.escaped c (c ∷ []) rest (itself c rest (unnamed c (sign c h)) (other c (sign c h)))

quote_sign : (quote c : ℕ) → is_quote quote ≡ true → (c == quote || c == 92) ≡ true → (is_quote c || c == 92) ≡ true
quote_sign quote c q h = go (c == 92) refl
  where
    go : (b : Bool) → (c == 92) ≡ b → (is_quote c || c == 92) ≡ true
    go true e = grind (arith, nat_tests)
    go false e = let same : c ≡ quote = grind (arith, nat_tests) in subst (λ d. (is_quote d || d == 92) ≡ true) (sym same) (rw q refl)

pub escaped_written : (quote c : ℕ) (rest : List ℕ) → is_quote quote ≡ true → IsCharacter c → Written (λ d. d == quote) c (escaped quote c) rest
escaped_written quote c rest q is = go (c == quote || c == 92) refl (nat_lt c 32 || nat_lt 126 c)
  where
    go : (a : Bool) → (c == quote || c == 92) ≡ a → (b : Bool) → Written (λ d. d == quote) c (if a then 92 ∷ c ∷ [] else (if b then hex_escape c else c ∷ [])) rest
    go true e b = sign_written (λ d. d == quote) c rest (quote_sign quote c q e)
    go false e true = hex_written (λ d. d == quote) c rest is
    go false e false = plainly c rest e

-- ---- their bytes

hex_ascii : (c : ℕ) → is_hex c ≡ true → is_ascii c ≡ true
hex_ascii c h = grind (arith, nat_tests)

pub escape_ascii : (c : ℕ) → IsCharacter c → Each is_ascii (hex_escape c)
escape_ascii c is =
    (refl, (refl, (refl, each_append is_ascii (digits 16 false c) (125 ∷ []) (each_weaker is_hex is_ascii (digits 16 false c) hex_ascii (hex_spells c is).each) (refl, tt))))

pub escaped_ascii : (quote c : ℕ) → is_quote quote ≡ true → IsCharacter c → Each is_ascii (escaped quote c)
escaped_ascii quote c q is = go (c == quote || c == 92) refl (nat_lt c 32 || nat_lt 126 c) refl
  where
    go : (a : Bool) → (c == quote || c == 92) ≡ a → (b : Bool) → (nat_lt c 32 || nat_lt 126 c) ≡ b → Each is_ascii (if a then 92 ∷ c ∷ [] else (if b then hex_escape c else c ∷ []))
    go true e b f = let k = quote_sign quote c q e in (refl, (grind (arith, nat_tests), tt))
    go false e true f = escape_ascii c is
    go false e false f = (grind (arith, nat_tests), tt)

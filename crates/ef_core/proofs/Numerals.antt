-- Printed digits are digits of the lexemes, and of the same value.
use Rattle.std.specs.Prelude.{ℕ, ◌+◌, ◌*◌, ◌-◌, ◌<◌, ◌^◌, ◌≡◌, true, List, [], ◌∷◌, length, decimal, refl}
use Rattle.std.specs.Str.Parse.{AllDigits, digits_value_after}
use Rattle.std.proofs.Common.{ap, ◌∙◌, arith}
use Rattle.std.proofs.lemmas.Bool.Decides.{nat_tests}
use Rattle.std.proofs.lemmas.Fmt.{decimal_is_IsNumeral_wide}
use Rattle.ef_base.specs.Characters.{Each, is_digit, number_after}
use Rattle.ef_core.specs.Lexeme.{IsNumber}

each_decimal : (ds : List ℕ) → AllDigits 10 ds → Each is_digit ds
each_decimal [] h = tt
each_decimal (d ∷ ds) h = (one d (h.0, tt), each_decimal ds h.1)
  where
    one : (d : ℕ) → AllDigits 10 (d ∷ []) → is_digit d ≡ true
    one d h = grind (arith, nat_tests, h.0)

decimal_value : (n : ℕ) (ds : List ℕ) → AllDigits 10 ds → number_after n ds ≡ digits_value_after 10 n ds
decimal_value n [] h = refl
decimal_value n (d ∷ ds) h = decimal_value (10 * n + (d - 48)) ds h.1 ∙ ap (λ m. digits_value_after 10 m ds) (one n d (h.0, tt))
  where
    one : (n d : ℕ) → AllDigits 10 (d ∷ []) → 10 * n + (d - 48) ≡ digits_value_after 10 n (d ∷ [])
    one n d h = grind (arith, nat_tests, h.0)

begins_number : (ds : List ℕ) → 0 < length ds → Each is_digit ds → IsNumber ds
begins_number [] some h = omega arith
begins_number (d ∷ ds) some h = h

pub decimal_number : (n : ℕ) → n < 10 ^ 64 → IsNumber (decimal n) × (number_after 0 (decimal n) ≡ n)
decimal_number n small =
    let is = decimal_is_IsNumeral_wide n small in (
      begins_number (decimal n) is.0.0 (each_decimal (decimal n) is.0.1),
      decimal_value 0 (decimal n) is.0.1 ∙ is.1,
    )

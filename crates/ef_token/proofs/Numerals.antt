-- Numerals: one more digit, and where one ends.
use Rattle.std.proofs.Common.{ℕ, ◌+◌, ◌*◌, ◌<◌, ◌≤◌, ◌≡◌, Bool, true, false, List, [], ◌∷◌, ◌++◌, length, arith, refl, subst, sym, ap, ◌∙◌, append-nil, length-append}
use Rattle.std.specs.Prelude.{◌==◌, nat_lt}
use Rattle.std.specs.Char.{digit_value}
use Rattle.std.proofs.lemmas.Bool.Decides.{nat_tests}
use Rattle.ef_base.specs.Characters.{Stops}
use Rattle.ef_token.specs.Numerals.{Digits, last, next, underscore, is_digit_of, value_from, Halts}

pub is_digit_from : (base c : ℕ) → digit_value c < base → is_digit_of base c ≡ true
is_digit_from base c h = grind (arith, nat_tests)

pub digit_below : (base c : ℕ) → is_digit_of base c ≡ true → digit_value c < base
digit_below base c h = grind (arith, nat_tests)

pub no_digit_from : (base c : ℕ) → (digit_value c < base → ⊥) → is_digit_of base c ≡ false
no_digit_from base c h = go (nat_lt (digit_value c) base) refl
  where
    go : (b : Bool) → is_digit_of base c ≡ b → is_digit_of base c ≡ false
    go true e = absurd (h (digit_below base c e))
    go false e = e

-- an underscore, `#` and a dot are no digits
pub no_sign : (base c : ℕ) → base ≤ 36 → digit_value c ≡ 36 → is_digit_of base c ≡ false
no_sign base c h e = no_digit_from base c (λ k. omega arith)

pub digits_more : (base : ℕ) (ds : List ℕ) (c : ℕ) → Digits base ds → is_digit_of base c ≡ true → Digits base (ds ++ c ∷ [])
digits_more base _ c (last d h) k = next d (c ∷ []) h (last c k)
digits_more base _ c (next d ds h hs) k = next d (ds ++ c ∷ []) h (digits_more base ds c hs k)
digits_more base _ c (underscore d ds h hs) k = underscore d (ds ++ c ∷ []) h (digits_more base ds c hs k)

pub digits_underscore : (base : ℕ) (ds : List ℕ) (c : ℕ) → Digits base ds → is_digit_of base c ≡ true → Digits base (ds ++ 95 ∷ c ∷ [])
digits_underscore base _ c (last d h) k = underscore d (c ∷ []) h (last c k)
digits_underscore base _ c (next d ds h hs) k = next d (ds ++ 95 ∷ c ∷ []) h (digits_underscore base ds c hs k)
digits_underscore base _ c (underscore d ds h hs) k = underscore d (ds ++ 95 ∷ c ∷ []) h (digits_underscore base ds c hs k)

pub value-append : (base n : ℕ) (ds es : List ℕ) → value_from base n (ds ++ es) ≡ value_from base (value_from base n ds) es
value-append base n [] es = refl
value-append base n (d ∷ ds) es = go (value-append base n ds es) (value-append base (base * n + digit_value d) ds es) (d == 95) refl
  where
    go : value_from base n (ds ++ es) ≡ value_from base (value_from base n ds) es → value_from base (base * n + digit_value d) (ds ++ es) ≡ value_from base (value_from base (base * n + digit_value d) ds) es
        → (b : Bool) → (d == 95) ≡ b → value_from base n (d ∷ (ds ++ es)) ≡ value_from base (value_from base n (d ∷ ds)) es
    go h k true e = rw e h
    go h k false e = rw e k

digit_no_underscore : (base c : ℕ) → base ≤ 36 → is_digit_of base c ≡ true → (c == 95) ≡ false
digit_no_underscore base c h k = let below : digit_value c < base = digit_below base c k in grind (arith, nat_tests)

pub value_digit : (base n c : ℕ) → base ≤ 36 → is_digit_of base c ≡ true → value_from base n (c ∷ []) ≡ base * n + digit_value c
value_digit base n c h k = rw (digit_no_underscore base c h k) refl

-- ---- of two numerals at one place, one is a front of the other

begins : (base : ℕ) (ds more : List ℕ) → Digits base ds → Stops (is_digit_of base) (ds ++ more) → ⊥
begins base _ more (last d h) s = cc
begins base _ more (next d ds h hs) s = cc
begins base _ more (underscore d ds h hs) s = cc

pub same_begins : (base : ℕ) (ds more text : List ℕ) → Digits base ds → text ≡ ds ++ more → Stops (is_digit_of base) text → ⊥
same_begins base ds more text h e s = begins base ds more h (subst (Stops (is_digit_of base)) e s)

pub front_digits : (base : ℕ) (xs ys r s : List ℕ) → base ≤ 36 → Digits base xs → Digits base ys → Halts base r → xs ++ r ≡ ys ++ s → (m : List ℕ) × (xs ≡ ys ++ m)
front_digits base _ _ r s b (last d h) (last e k) halts is = ([], cc is)
front_digits base _ _ [] s b (last d h) (next e ys k ks) halts is = absurd (same_begins base ys s [] ks (cc is) tt)
front_digits base _ _ (c ∷ r) s b (last d h) (next e ys k ks) halts is = absurd (same_begins base ys s (c ∷ r) ks (cc is) halts.0)
front_digits base _ _ [] s b (last d h) (underscore e ys k ks) halts is = cc is
front_digits base _ _ (c ∷ r) s b (last d h) (underscore e ys k ks) halts is = absurd (same_begins base ys s r ks (cc is) (halts.1 (cc is)))
front_digits base _ _ r s b (next d xs h hs) (last e k) halts is = (xs, ap (λ c. c ∷ xs) (cc is))
front_digits base _ _ r s b (next d xs h hs) (next e ys k ks) halts is =
    let on = front_digits base xs ys r s b hs ks halts (cc is) in
    (on.0, ap (λ c. c ∷ xs) (cc is) ∙ ap (λ t. e ∷ t) on.1)
front_digits base _ _ r s b (next d xs h hs) (underscore e ys k ks) halts is =
    absurd (same_begins base xs r (95 ∷ (ys ++ s)) hs (sym (cc is)) (no_sign base 95 b refl))
front_digits base _ _ r s b (underscore d xs h hs) (last e k) halts is = (95 ∷ xs, ap (λ c. c ∷ 95 ∷ xs) (cc is))
front_digits base _ _ r s b (underscore d xs h hs) (next e ys k ks) halts is =
    absurd (same_begins base ys s (95 ∷ (xs ++ r)) ks (cc is) (no_sign base 95 b refl))
front_digits base _ _ r s b (underscore d xs h hs) (underscore e ys k ks) halts is =
    let on = front_digits base xs ys r s b hs ks halts (cc is) in
    (on.0, ap (λ c. c ∷ 95 ∷ xs) (cc is) ∙ ap (λ t. e ∷ 95 ∷ t) on.1)

-- where both halt they are one
pub same_digits : (base : ℕ) (xs ys r s : List ℕ) → base ≤ 36 → Digits base xs → Digits base ys → Halts base r → Halts base s → xs ++ r ≡ ys ++ s → xs ≡ ys
same_digits base xs ys r s b h k halts stops is = go (front_digits base xs ys r s b h k halts is) (front_digits base ys xs s r b k h stops (sym is))
  where
    go : (m : List ℕ) × (xs ≡ ys ++ m) → (n : List ℕ) × (ys ≡ xs ++ n) → xs ≡ ys
    go ([], e) on = e ∙ append-nil ys
    go (c ∷ m, e) on = let l = ap length e ∙ length-append ys (c ∷ m) in let k = ap length on.1 ∙ length-append xs on.0 in absurd (omega arith)

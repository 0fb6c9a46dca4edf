-- Sets of classes as numbers.
use Rattle.std.proofs.Common.{◌≡◌, ℕ, ◌^◌, min, max, Bool, true, false, eqb, refl, sym, ap, subst, ◌∙◌, arith}
use Rattle.std.specs.Prelude.{bit_and, bit_or, nat_eq}
use Rattle.std.specs.Int.{bit_at}
use Rattle.std.proofs.lemmas.Nat.Bits.{bit_at_and, bit_at_or, bit_at-lt, bit_at-zero, bit_at-pow_same, bit_at-pow_other}
use Rattle.std.proofs.lemmas.Bool.{eqb-true, eq-eqb}
use Rattle.ef_grammar.specs.Grammar.{has, one}
use Rattle.ef_grammar.specs.Table.{within, apart}

pub within_is : (s t i : ℕ) → within s t ≡ true → has s i ≡ true → has t i ≡ true
within_is s t i e h =
    let both : min (bit_at s i) (bit_at t i) ≡ bit_at s i = sym (bit_at_and s t i) ∙ ap (λ z. bit_at z i) (eqb-true (bit_and s t) s e) in
    eq-eqb (bit_at t i) 1 (omega (arith, both, eqb-true (bit_at s i) 1 h, bit_at-lt t i))

pub apart_is : (s t i : ℕ) → apart s t ≡ true → has s i ≡ true → has t i ≡ true → ⊥
apart_is s t i e h k =
    let both : min (bit_at s i) (bit_at t i) ≡ 0 = sym (bit_at_and s t i) ∙ ap (λ z. bit_at z i) (eqb-true (bit_and s t) 0 e) ∙ bit_at-zero i in
    omega (arith, both, eqb-true (bit_at s i) 1 h, eqb-true (bit_at t i) 1 k)

pub both_have : (s t i : ℕ) → has s i ≡ true → has t i ≡ true → has (bit_and s t) i ≡ true
both_have s t i h k = eq-eqb (bit_at (bit_and s t) i) 1 (omega (arith, bit_at_and s t i, eqb-true (bit_at s i) 1 h, eqb-true (bit_at t i) 1 k))

pub one_has : (s t i : ℕ) → has (bit_and s t) i ≡ true → has s i ≡ true
one_has s t i h = eq-eqb (bit_at s i) 1 (omega (arith, bit_at_and s t i, eqb-true (bit_at (bit_and s t) i) 1 h, bit_at-lt s i))

pub other_has : (s t i : ℕ) → has (bit_and s t) i ≡ true → has t i ≡ true
other_has s t i h = eq-eqb (bit_at t i) 1 (omega (arith, bit_at_and s t i, eqb-true (bit_at (bit_and s t) i) 1 h, bit_at-lt t i))

pub one_side : (s t i : ℕ) → has s i ≡ true → has (bit_or s t) i ≡ true
one_side s t i h =
    let either : bit_at (bit_or s t) i ≡ max (bit_at s i) (bit_at t i) = bit_at_or s t i in
    eq-eqb (bit_at (bit_or s t) i) 1 (omega (arith, either, eqb-true (bit_at s i) 1 h, bit_at-lt t i))

pub other_side : (s t i : ℕ) → has t i ≡ true → has (bit_or s t) i ≡ true
other_side s t i h =
    let either : bit_at (bit_or s t) i ≡ max (bit_at s i) (bit_at t i) = bit_at_or s t i in
    eq-eqb (bit_at (bit_or s t) i) 1 (omega (arith, either, eqb-true (bit_at t i) 1 h, bit_at-lt s i))

pub either_has : (s t i : ℕ) → has (bit_or s t) i ≡ true → (has s i ≡ true → ⊥) → has t i ≡ true
either_has s t i h n = by (has s i) refl
  where
    by : (b : Bool) → has s i ≡ b → has t i ≡ true
    by true e = absurd (n e)
    by false e = eq-eqb (bit_at t i) 1 (omega (arith, bit_at_or s t i, eqb-true (bit_at (bit_or s t) i) 1 h, bit_at-lt s i, bit_at-lt t i, not_one (bit_at s i) e))
      where
        not_one : (k : ℕ) → nat_eq k 1 ≡ false → k ≡ 1 → ⊥
        not_one k p q = unlike (nat_eq k 1) (eq-eqb k 1 q) p
          where
            unlike : (b : Bool) → b ≡ true → b ≡ false → ⊥
            unlike b x y = cc

pub own_is : (i : ℕ) → has (one i) i ≡ true
own_is i = eq-eqb (bit_at (2 ^ i) i) 1 (bit_at-pow_same i)

other_not : (i j : ℕ) → eqb j i ≡ false → j ≡ i → ⊥
other_not i j e p = unlike (eqb j i) (eq-eqb j i p) e
  where
    unlike : (b : Bool) → b ≡ true → b ≡ false → ⊥
    unlike b h k = cc

only : (b : Bool) (i j : ℕ) → eqb j i ≡ b → has (one i) j ≡ true → j ≡ i
only true i j e h = eqb-true j i e
only false i j e h = absurd (omega (arith, eqb-true (bit_at (2 ^ i) j) 1 h, bit_at-pow_other i j (other_not i j e)))

-- a set with a class has all of the set of that one
pub one_within : (i j s : ℕ) → has s i ≡ true → has (one i) j ≡ true → has s j ≡ true
one_within i j s h k = subst (λ z. has s z ≡ true) (sym (only (eqb j i) i j refl k)) h

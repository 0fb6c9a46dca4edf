-- Numbers times powers of two, and numbers divided by these.
use Rattle.std.proofs.Common.{◌≡◌, ◌≢◌, ℕ, zero, suc, ◌*◌, ◌^◌, ◌<◌, ◌≤◌, ℤ, pos, negsuc, neg_ℤ, ◌*ℤ◌, refl, sym, ap, ◌∙◌, arith}
use Rattle.std.proofs.Math.Nat.{div-eq_of_lt, lt_of_lt_of_le, lt_of_le_of_lt}
use Rattle.std.proofs.Math.Pow.{pow_mono, pow-lt}
use Rattle.std.proofs.lemmas.Int.{to_z_pos, to_z-of_z}
use Rattle.std.proofs.lemmas.Nat.{one_shl}
use Rattle.std.specs.Prelude.{FitsSigned}
use Rattle.std.specs.Int.{w128, cast_signed, cast_unsigned, int_shl, int_shr}
use Rattle.std.specs.Int.Signed.{mag, mag_shr}

pub power : (count : ℕ) → count < 127 → int_shl w128 (pos 1) count ≡ pos (2 ^ count)
power count small = let below : count < 128 = omega arith in ap (cast_signed w128) (one_shl count 128 below) ∙ to_z_pos w128 (2 ^ count) (pow-lt small)

-- ---- what is out of range

mag_neg : (n : ℕ) → 0 < n → suc (mag (neg_ℤ (pos n))) ≡ n
mag_neg zero h = absurd (omega (arith, h))
mag_neg (suc n) h = refl

too_large : (i : ℤ) (m : ℕ) → i ≢ pos 0 → 2 ^ 127 ≤ m → (i ≡ negsuc 0 → 2 ^ 128 ≤ m) → FitsSigned w128 (i *ℤ pos m) → ⊥
too_large (pos zero) m some large more f = some refl
too_large (pos (suc a)) m some large more f = let small : suc a * m < 2 ^ 127 = f.sfits in omega arith
too_large (negsuc zero) m some large more f =
    let small : mag (neg_ℤ (pos (1 * m))) < 2 ^ 127 = f.sfits in
    let is : suc (mag (neg_ℤ (pos (1 * m)))) ≡ 1 * m = mag_neg (1 * m) (omega arith) in
    let above : 2 ^ 128 ≤ m = more refl in
    omega arith
too_large (negsuc (suc a)) m some large more f =
    let small : mag (neg_ℤ (pos (suc (suc a) * m))) < 2 ^ 127 = f.sfits in
    let is : suc (mag (neg_ℤ (pos (suc (suc a) * m)))) ≡ suc (suc a) * m = mag_neg (suc (suc a) * m) (omega arith) in
    omega arith

-- -1 is the one number that is shifted by 127
pub shifted_out : (i : ℤ) (count : ℕ) → i ≢ pos 0 → 127 ≤ count → (count ≡ 127 → i ≢ negsuc 0) → FitsSigned w128 (i *ℤ pos (2 ^ count)) → ⊥
shifted_out i count some above but f = too_large i (2 ^ count) some (pow_mono above) (λ e. pow_mono (next e)) f
  where
    next : i ≡ negsuc 0 → 128 ≤ count
    next e = let no : count ≢ 127 = λ h. but h e in omega arith

-- ---- shifts to the right by 127 or more are the same

far : (i : ℤ) (count : ℕ) → FitsSigned w128 i → 127 ≤ count → int_shr i 127 ≡ int_shr i count
far (pos a) count f above = ap pos (div-eq_of_lt f.sfits ∙ sym (div-eq_of_lt (lt_of_lt_of_le f.sfits (pow_mono above))))
far (negsuc a) count f above = ap negsuc (div-eq_of_lt f.sfits ∙ sym (div-eq_of_lt (lt_of_lt_of_le f.sfits (pow_mono above))))

pub shifted_far : (i : ℤ) (count : ℕ) → FitsSigned w128 i → 127 ≤ count
    → cast_signed w128 (cast_unsigned w128 (int_shr (cast_signed w128 (cast_unsigned w128 i)) 127)) ≡ int_shr i count
shifted_far i count f above =
    ap (λ z. cast_signed w128 (cast_unsigned w128 (int_shr z 127))) (to_z-of_z w128 i f)
    ∙ to_z-of_z w128 (int_shr i 127) (record { sfits = lt_of_le_of_lt (mag_shr i (2 ^ 127)) f.sfits })
    ∙ far i count f above

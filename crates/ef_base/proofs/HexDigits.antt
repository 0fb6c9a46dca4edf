-- Hexadecimal digits, written from the last to the first.
use Rattle.std.proofs.Common.{◌≡◌, ◌<◌, ◌≤◌, ◌+◌, ◌*◌, ◌/◌, ◌%◌, ◌^◌, ℕ, zero, suc, Bool, false, cond, List, [], ◌∷◌, ◌++◌, length, refl, sym, ap, ◌∙◌, arith, ◌⊎◌, inl, inr, eq-eqb, ne_eqb}
use Rattle.std.specs.Fmt.{digits, digits_onto, digit_glyph}
use Rattle.std.proofs.Math.Nat.{pow-suc}

-- a last digit, and one with more before it
onto_last : (k n : ℕ) (acc : List ℕ) → n < 16 → digits_onto (suc k) 16 false n acc ≡ digit_glyph false (n % 16) ∷ acc
onto_last k n acc small =
    ap (λ (b : Bool). cond b (digit_glyph false (n % 16) ∷ acc) (digits_onto k 16 false (n / 16) (digit_glyph false (n % 16) ∷ acc))) (eq-eqb (n / 16) 0 (omega arith))

onto_step : (k n : ℕ) (acc : List ℕ) → 16 ≤ n → digits_onto (suc k) 16 false n acc ≡ digits_onto k 16 false (n / 16) (digit_glyph false (n % 16) ∷ acc)
onto_step k n acc large =
    ap (λ (b : Bool). cond b (digit_glyph false (n % 16) ∷ acc) (digits_onto k 16 false (n / 16) (digit_glyph false (n % 16) ∷ acc))) (ne_eqb (n / 16) 0 (omega arith))

small_or_not : (n : ℕ) → (n < 16) ⊎ (16 ≤ n)
small_or_not n = by (n / 16) refl
  where
    by : (q : ℕ) → n / 16 ≡ q → (n < 16) ⊎ (16 ≤ n)
    by zero e = inl (omega arith)
    by (suc q) e = inr (omega arith)

-- digits in front of others
onto_front : (k n : ℕ) (acc more : List ℕ) → digits_onto k 16 false n (acc ++ more) ≡ digits_onto k 16 false n acc ++ more
onto_front zero n acc more = refl
onto_front (suc k) n acc more =
    elim (small_or_not n) [
      | inl small ↦ onto_last k n (acc ++ more) small ∙ ap (λ l. l ++ more) (sym (onto_last k n acc small))
      | inr large ↦
          onto_step k n (acc ++ more) large ∙ onto_front k (n / 16) (digit_glyph false (n % 16) ∷ acc) more
          ∙ ap (λ l. l ++ more) (sym (onto_step k n acc large))
    ]

-- one digit at least and so many more at most are left to write, in front of the text
pub record AreLeft (code rest : ℕ) (text : List ℕ) : Type 0 where
  pub more : ℕ
  pub room : length text + more ≡ 8
  pub small : rest < 16 ^ suc more
  pub steps : ℕ
  pub enough : steps ≡ more + 56
  pub is : digits_onto (suc steps) 16 false rest text ≡ digits_onto 64 16 false code (125 ∷ [])

pub all_left : (code : ℕ) (text : List ℕ) → code < 2 ^ 32 → text ≡ 125 ∷ [] → AreLeft code code text
all_left code text small e =
    record { more = 7; room = ap (λ t. length t + 7) e; small = small; steps = 63; enough = refl; is = ap (digits_onto 64 16 false code) e }

pub one_written : (code rest digit : ℕ) (text after : List ℕ) → 15 < rest → digit ≡ digit_glyph false (rest % 16) → after ≡ digit ∷ text → AreLeft code rest text → AreLeft code (rest / 16) after
one_written code rest digit text after large is_digit is_after h = go h.more h.room h.small h.enough
  where
    go : (more : ℕ) → length text + more ≡ 8 → rest < 16 ^ suc more → h.steps ≡ more + 56 → AreLeft code (rest / 16) after
    go zero room small enough = absurd (omega arith)
    go (suc more) room small enough =
        let power : 16 ^ suc (suc more) ≡ 16 ^ suc more * 16 = pow-suc 16 (suc more) in
        let whole : after ≡ digit_glyph false (rest % 16) ∷ text = is_after ∙ ap (λ d. d ∷ text) is_digit in
        let long : length after ≡ suc (length text) = ap length is_after in
        let fewer : suc (more + 56) ≡ h.steps = omega arith in
        record {
          more = more;
          room = omega arith;
          small = omega arith;
          steps = more + 56;
          enough = refl;
          is =
              ap (digits_onto (suc (more + 56)) 16 false (rest / 16)) whole ∙ ap (λ k. digits_onto k 16 false (rest / 16) (digit_glyph false (rest % 16) ∷ text)) fewer
              ∙ sym (onto_step h.steps rest text (omega arith)) ∙ h.is;
        }

pub last_written : (code rest digit : ℕ) (text after : List ℕ) → rest < 16 → digit ≡ digit_glyph false rest → after ≡ digit ∷ text → AreLeft code rest text
    → after ≡ digits 16 false code ++ 125 ∷ []
unfolding digits
last_written code rest digit text after small is_digit is_after h =
    let same : rest % 16 ≡ rest = omega arith in
    is_after ∙ ap (λ d. d ∷ text) (is_digit ∙ ap (digit_glyph false) (sym same)) ∙ sym (onto_last h.steps rest text small) ∙ h.is
    ∙ onto_front 64 code [] (125 ∷ [])

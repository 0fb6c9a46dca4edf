-- Numerals as the scanner reads them, digit by digit.
use Rattle.std.proofs.Common.{ℕ, ◌+◌, ◌*◌, ◌<◌, ◌≤◌, ◌≡◌, Bool, false, List, [], ◌∷◌, ◌++◌, length, chars, arith, refl, subst, sym, ap, ◌∙◌}
use Rattle.std.specs.Prelude.{◌⊎◌, Option, Some, None, IfSome}
use Rattle.std.proofs.Common.{inl, inr}
use Rattle.std.specs.Char.{digit_value}
use Rattle.ef_base.specs.Characters.{Stops}
use Rattle.ef_token.specs.Numerals.{Digits, last, is_digit_of, value_of}
use Rattle.ef_token.proofs.Numerals.{digit_below, digits_more, digits_underscore, value-append, value_digit}
use Rattle.ef_scan.specs.declared.cursor.Cursor.{Cursor}
use Rattle.ef_scan.specs.declared.number.Number.{Number}
use Rattle.ef_scan.specs.Cursors.{IsStep, IsBehind}
use Rattle.ef_scan.specs.Numbers.{Halts, IsDigit, IsNext, IsNumber, IsValue}
use Rattle.ef_scan.proofs.Cursors.{step_behind, behind_step, behind_all, behind_room}

pub stops_at : (base : ℕ) (text more : List ℕ) (c : ℕ) → text ≡ c ∷ more → is_digit_of base c ≡ false → Stops (is_digit_of base) text
stops_at base text more c e h = subst (Stops (is_digit_of base)) (sym e) h

pub stops_none : (p : ℕ → Bool) (text : List ℕ) → text ≡ [] → Stops p text
stops_none p text e = subst (Stops p) (sym e) tt

pub halts_none : (base : ℕ) (text : List ℕ) → text ≡ [] → Halts base text
halts_none base text e = subst (Halts base) (sym e) tt

pub halts_other : (base : ℕ) (text more : List ℕ) (c : ℕ) → text ≡ c ∷ more → Stops (is_digit_of base) text → (c ≡ 95 → ⊥) → Halts base text
halts_other base text more c e h n = subst (Halts base) (sym e) (subst (Stops (is_digit_of base)) e h, λ z. absurd (n z))

pub halts_underscore : (base : ℕ) (text more : List ℕ) (c : ℕ) → text ≡ c ∷ more → Stops (is_digit_of base) text → Stops (is_digit_of base) more → Halts base text
halts_underscore base text more c e h k = subst (Halts base) (sym e) (subst (Stops (is_digit_of base)) e h, λ z. k)

pub next_digit : (base digit : ℕ) (first second : Cursor) → IsDigit base first digit second → IsNext base first digit second
next_digit base digit first second h = record {
  c = h.c;
  front = h.c ∷ [];
  is = inl refl;
  behind = step_behind first second h.c h.step;
  is_digit = h.is_digit;
  value = h.value;
}

pub next_underscored : (base digit : ℕ) (first second third : Cursor) (c : ℕ) → c ≡ 95 → IsStep first c second → IsDigit base second digit third → IsNext base first digit third
next_underscored base digit first second third c e s h = record {
  c = h.c;
  front = c ∷ h.c ∷ [];
  is = inr (ap (λ z. z ∷ h.c ∷ []) e);
  behind = behind_step first second third (c ∷ []) h.c (step_behind first second c s) h.step;
  is_digit = h.is_digit;
  value = h.value;
}

pub underscored_some : (base : ℕ) (first second : Cursor) (c : ℕ) (r : Option (ℕ × Cursor)) → c ≡ 95 → IsStep first c second → IfSome r (λ d. IsDigit base second d.0 d.1)
    → IfSome r (λ d. IsNext base first d.0 d.1)
underscored_some base first second c (Some d) e s h = next_underscored base d.0 first second d.1 c e s h
underscored_some base first second c None e s h = tt

pub next_shorter : (base digit : ℕ) (first second : Cursor) → IsNext base first digit second → length second.rest.now < length first.rest.now
next_shorter base digit first second h = go h.is
  where
    go : (h.front ≡ h.c ∷ []) ⊎ (h.front ≡ 95 ∷ h.c ∷ []) → length second.rest.now < length first.rest.now
    go (inl e) = let room = behind_room first second h.front h.behind in let l = ap length e in omega arith
    go (inr e) = let room = behind_room first second h.front h.behind in let l = ap length e in omega arith

-- ---- a numeral that has come so far

pub record Numbered (base : ℕ) (first second : Cursor) (number : Option ℕ) : Type 0 where
  pub front : List ℕ
  pub behind : IsBehind first second front
  pub digits : Digits base front
  pub value : IsValue (value_of base front) number

pub numbered_first : (base digit : ℕ) (first second : Cursor) → base ≤ 36 → IsDigit base first digit second → Numbered base first second (Some digit)
numbered_first base digit first second most h =
    let below : digit_value h.c < base = digit_below base h.c h.is_digit in
    let e : value_of base (h.c ∷ []) ≡ digit = value_digit base 0 h.c most h.is_digit ∙ omega (arith, h.value) in
    record {
      front = h.c ∷ [];
      behind = step_behind first second h.c h.step;
      digits = last h.c h.is_digit;
      value = (sym e, omega (arith, e, h.value));
    }

pub numbered_more : (base digit : ℕ) (first second third : Cursor) (value later : Option ℕ) → base ≤ 36 → Numbered base first second value → IsNext base second digit third
    → ((n : ℕ) → IsValue n value → IsValue (base * n + digit) later) → Numbered base first third later
numbered_more base digit first second third value later most h k f = go k.is
  where
    add : IsValue (base * value_of base h.front + digit_value k.c) later
    add = subst (λ d. IsValue (base * value_of base h.front + d) later) k.value (f (value_of base h.front) h.value)

    go : (k.front ≡ k.c ∷ []) ⊎ (k.front ≡ 95 ∷ k.c ∷ []) → Numbered base first third later
    go (inl e) = record {
      front = h.front ++ k.front;
      behind = behind_all first second third h.front k.front h.behind k.behind;
      digits = subst (λ t. Digits base (h.front ++ t)) (sym e) (digits_more base h.front k.c h.digits k.is_digit);
      value =
          subst (λ n. IsValue n later)
          (sym (ap (λ t. value_of base (h.front ++ t)) e ∙ value-append base 0 h.front (k.c ∷ []) ∙ value_digit base (value_of base h.front) k.c most k.is_digit)) add;
    }
    go (inr e) = record {
      front = h.front ++ k.front;
      behind = behind_all first second third h.front k.front h.behind k.behind;
      digits = subst (λ t. Digits base (h.front ++ t)) (sym e) (digits_underscore base h.front k.c h.digits k.is_digit);
      value =
          subst (λ n. IsValue n later)
          (sym (ap (λ t. value_of base (h.front ++ t)) e ∙ value-append base 0 h.front (95 ∷ k.c ∷ []) ∙ value_digit base (value_of base h.front) k.c most k.is_digit)) add;
    }

pub numbered_all : (base : ℕ) (first : Cursor) (n : Number) → Numbered base first n.behind n.value → Halts base (chars n.behind.rest.now) → IsNumber base first n
numbered_all base first n h halts = record { front = h.front; behind = h.behind; digits = h.digits; value = h.value; halts = halts }

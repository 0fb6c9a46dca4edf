-- Integers and their faults, at cursors.
use Rattle.std.proofs.lemmas.Bool.Decides.{nat_tests}
use Rattle.std.specs.Prelude.{ℕ, ◌^◌, ◌<◌, ◌≤◌, ◌≡◌, ◌==◌, false, List, [], ◌∷◌, ◌++◌, chars, Option, Some, None}
use Rattle.std.proofs.Common.{ap, ◌∙◌, sym, subst, arith, inl, append_assoc}
use Rattle.ef_base.specs.Characters.{Stops}
use Rattle.ef_token.specs.Numerals.{Digits, is_digit_of, value_of, IsBase}
use Rattle.ef_token.specs.Lexeme as x
use Rattle.ef_token.specs.ScanFaults.{Fails, illegal_base, no_digit, float, large, IsFault}
use Rattle.ef_token.proofs.Integers.{HasFraction, fault_of, at_least, at_least_107, at_least_501, IntegerStands, decimal_stands, based_stands, small_integer}
use Rattle.ef_scan.specs.declared.cursor.Cursor.{Cursor}
use Rattle.ef_scan.specs.declared.number.Number.{Number}
use Rattle.ef_scan.specs.declared.verdict.Piece.TheVariants as piece
use Rattle.ef_scan.specs.declared.verdict.Verdict.TheVariants as verdict
use Rattle.ef_scan.specs.Cursors.{IsStep, IsBehind}
use Rattle.ef_scan.specs.Numbers.{Halts, IsNumber, IsValue}
use Rattle.ef_scan.specs.Verdicts.{IsIntegerAt, IsVerdict}
use Rattle.ef_scan.proofs.Cursors.{behind_all, behind_step}
use Rattle.ef_scan.proofs.Standing.{lexeme_at, integer_at, integer_stands_at}

-- ---- verdicts

pub base_fault : (first behind : Cursor) (n : Number) → IsNumber 10 first n → IsStep n.behind 35 behind → ((m : ℕ) → IsValue m n.value → IsBase m → ⊥) → IsFault 106 (chars first.rest.now)
base_fault first behind n h step none =
    let is : chars first.rest.now ≡ h.front ++ 35 ∷ chars behind.rest.now = h.behind.chars_are ∙ ap (λ t. h.front ++ t) step.chars_are in
    inl (
      subst (Fails 106) (sym is) (illegal_base h.front (chars behind.rest.now) h.digits (none (value_of 10 h.front) h.value)),
      λ other f. at_least other (value_of 10 h.front) (chars n.behind.rest.now) (fault_of other (chars first.rest.now) h.front (chars n.behind.rest.now) f h.behind.chars_are h.digits h.halts),
    )

pub digit_fault : (first behind : Cursor) (n : Number) (base : ℕ) → IsNumber 10 first n → IsStep n.behind 35 behind → IsBase base → ((m : ℕ) → IsValue m n.value → base ≡ m)
    → Stops (is_digit_of base) (chars behind.rest.now) → IsFault 107 (chars first.rest.now)
digit_fault first behind n base h step is_base same stops =
    let is : chars first.rest.now ≡ h.front ++ 35 ∷ chars behind.rest.now = h.behind.chars_are ∙ ap (λ t. h.front ++ t) step.chars_are in
    let e : base ≡ value_of 10 h.front = same (value_of 10 h.front) h.value in
    let b : IsBase (value_of 10 h.front) = subst IsBase e is_base in
    inl (
      subst (Fails 107) (sym is) (no_digit h.front (chars behind.rest.now) h.digits b (subst (λ z. Stops (is_digit_of z) (chars behind.rest.now)) e stops)),
      λ other f. at_least_107 other (value_of 10 h.front) (chars n.behind.rest.now) (fault_of other (chars first.rest.now) h.front (chars n.behind.rest.now) f h.behind.chars_are h.digits h.halts) b,
    )

pub fraction_fault : (first : Cursor) (n : Number) → IsNumber 10 first n → ((more : List ℕ) → chars n.behind.rest.now ≡ 35 ∷ more → ⊥) → HasFraction (chars n.behind.rest.now) → IsFault 501 (chars first.rest.now)
fraction_fault first n h none f =
    let is : chars first.rest.now ≡ h.front ++ 46 ∷ f.0 ∷ f.1 = h.behind.chars_are ∙ ap (λ t. h.front ++ t) f.2 in
    inl (
      subst (Fails 501) (sym is) (float h.front f.0 f.1 h.digits f.3),
      λ other g. at_least_501 other (value_of 10 h.front) (chars n.behind.rest.now) (fault_of other (chars first.rest.now) h.front (chars n.behind.rest.now) g h.behind.chars_are h.digits h.halts) none,
    )

pub decimal_at : (first : Cursor) (n : Number) → (h : IsNumber 10 first n) → ((more : List ℕ) → chars n.behind.rest.now ≡ 35 ∷ more → ⊥) → (HasFraction (chars n.behind.rest.now) → ⊥)
    → IsIntegerAt first (value_of 10 h.front) n.behind
decimal_at first n h none never =
    integer_at first n.behind (value_of 10 h.front) h.front h.behind (decimal_stands h.front (chars n.behind.rest.now) h.digits h.halts none never)

pub based_at : (first behind : Cursor) (n m : Number) (base : ℕ) (h : IsNumber 10 first n) (k : IsNumber base behind m) → IsStep n.behind 35 behind → IsBase base → ((v : ℕ) → IsValue v n.value → base ≡ v)
    → IsIntegerAt first (value_of base k.front) m.behind
based_at first behind n m base h k step is_base same =
    let e : base ≡ value_of 10 h.front = same (value_of 10 h.front) h.value in
    let b : IsBase (value_of 10 h.front) = subst IsBase e is_base in
    let d : Digits (value_of 10 h.front) k.front = subst (λ z. Digits z k.front) e k.digits in
    let halts : Halts (value_of 10 h.front) (chars m.behind.rest.now) = subst (λ z. Halts z (chars m.behind.rest.now)) e k.halts in
    let at : IsBehind first m.behind ((h.front ++ 35 ∷ []) ++ k.front) = behind_all first behind m.behind (h.front ++ 35 ∷ []) k.front (behind_step first n.behind behind h.front 35 h.behind step) k.behind in
    let stands : IntegerStands (value_of base k.front) (h.front ++ 35 ∷ k.front) (chars m.behind.rest.now) =
    subst (λ z. IntegerStands (value_of z k.front) (h.front ++ 35 ∷ k.front) (chars m.behind.rest.now)) (sym e) (based_stands h.front k.front (chars m.behind.rest.now) h.digits b d halts) in
    integer_at first m.behind (value_of base k.front) (h.front ++ 35 ∷ k.front) (subst (IsBehind first m.behind) (append_assoc h.front (35 ∷ []) k.front) at) stands

-- ---- by the value

pub value_found : (first behind : Cursor) (value : Option ℕ) (n v : ℕ) → IsIntegerAt first n behind → IsValue n value → value ≡ Some v → IsVerdict first (verdict.Found (piece.Int v) behind)
value_found first behind value n v h is e =
    let k : (v ≡ n) × (n < 2 ^ 127) = subst (IsValue n) e is in
    (x.integer n, (k.0, k.1), lexeme_at first behind (x.integer n) h.front h.behind (small_integer n h.front (chars behind.rest.now) (integer_stands_at first behind n h) k.1))

pub value_large : (first behind : Cursor) (value : Option ℕ) (n : ℕ) → IsIntegerAt first n behind → IsValue n value → value ≡ None → IsFault 504 (chars first.rest.now)
value_large first behind value n h is e =
    let k : 2 ^ 127 ≤ n = subst (IsValue n) e is in
    inl (subst (Fails 504) (sym h.behind.chars_are) (large n h.front (chars behind.rest.now) h.lexeme h.longest k), λ other f. h.others other f)

-- a text that begins with another character than this
pub not_after : (c : ℕ) (text : List ℕ) → Stops (λ d. d == c) text → (more : List ℕ) → text ≡ c ∷ more → ⊥
not_after c text s more e = let no : (c == c) ≡ false = subst (Stops (λ d. d == c)) e s in absurd (grind (arith, nat_tests))

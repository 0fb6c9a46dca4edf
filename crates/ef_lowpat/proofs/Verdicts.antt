-- Verdicts of tests, and variables that have values.
use Rattle.std.proofs.Common.{◌≡◌, ℕ, ◌≤◌, ◌==◌, if◌then◌else◌, Bool, true, false, List, [], ◌∷◌, ◌++◌, Option, Some, None, refl, sym, ap, ◌∙◌, subst}
use Rattle.std.specs.Prelude.{◌&&◌}
use Rattle.ef_base.specs.declared.name.Name.{Name}
use Rattle.ef_core.specs.declared.env.Bind.{Bind}
use Rattle.ef_core.specs.declared.literal.CoreVar.{CoreVar}
use Rattle.ef_core.specs.declared.lowered.Test.{Test}
use Rattle.ef_core.specs.Env.{held}
use Rattle.ef_meaning.specs.Value.{Value}
use Rattle.ef_meaning.specs.Match.{Bindings, value_of}
use Rattle.ef_meaning.specs.Core.{Vars, value_at}
use Rattle.ef_meaning.specs.Lowers.{Agree, AreBelow, Describes, SameAt}
use Rattle.ef_meaning.specs.Patterns.{HaveValues, TestsBelow, are_same, both_hold, verdict}
use Rattle.ef_meaning.proofs.Variables.{below_more, held_below}
use Rattle.ef_lowpat.specs.Matching.{HaveHeld}

-- ---- verdicts

pub verdict_agree : (n : ℕ) (ts : List Test) (c d : Vars) → TestsBelow n ts → Agree n c d → verdict ts d ≡ verdict ts c
verdict_agree n [] c d below agree = refl
verdict_agree n (t ∷ ts) c d below agree = rw (agree.each t.left below.0, agree.each t.right below.1, verdict_agree n ts c d below.2 agree) refl

both_hold_along : (o p q : Option Bool) → both_hold o (both_hold p q) ≡ both_hold (both_hold o p) q
both_hold_along None p q = refl
both_hold_along (Some a) None q = refl
both_hold_along (Some a) (Some b) None = refl
both_hold_along (Some true) (Some b) (Some c) = refl
both_hold_along (Some false) (Some b) (Some c) = refl

both_hold_true : (o : Option Bool) → both_hold (Some true) o ≡ o
both_hold_true None = refl
both_hold_true (Some b) = refl

pub verdict_append : (ts us : List Test) (c : Vars) → verdict (ts ++ us) c ≡ both_hold (verdict ts c) (verdict us c)
verdict_append [] us c = sym (both_hold_true (verdict us c))
verdict_append (t ∷ ts) us c =
    ap (both_hold (are_same (value_at t.left c) (value_at t.right c))) (verdict_append ts us c)
    ∙ both_hold_along (are_same (value_at t.left c) (value_at t.right c)) (verdict ts c) (verdict us c)

-- what fails stays so, where the others have a verdict
pub verdict_false : (ts us : List Test) (c : Vars) (b : Bool) → verdict ts c ≡ Some false → verdict us c ≡ Some b → verdict (ts ++ us) c ≡ Some false
verdict_false ts us c b p q = verdict_append ts us c ∙ (λ i. both_hold (p i) (q i))

pub verdict_true : (ts us : List Test) (c : Vars) (b : Bool) → verdict ts c ≡ Some true → verdict us c ≡ Some b → verdict (ts ++ us) c ≡ Some b
verdict_true ts us c b p q = verdict_append ts us c ∙ (λ i. both_hold (p i) (q i))

pub verdict_both : (ts us : List Test) (c : Vars) (a b : Bool) → verdict ts c ≡ Some a → verdict us c ≡ Some b → verdict (ts ++ us) c ≡ Some (a && b)
verdict_both ts us c a b p q = verdict_append ts us c ∙ (λ i. both_hold (p i) (q i))

pub tests_below_more : (m n : ℕ) (ts : List Test) → m ≤ n → TestsBelow m ts → TestsBelow n ts
tests_below_more m n [] le p = tt
tests_below_more m n (t ∷ ts) le p = (below_more m n t.left le p.0, below_more m n t.right le p.1, tests_below_more m n ts le p.2)

pub tests_below_append : (n : ℕ) (ts us : List Test) → TestsBelow n ts → TestsBelow n us → TestsBelow n (ts ++ us)
tests_below_append n [] us p q = q
tests_below_append n (t ∷ ts) us p q = (p.0, p.1, tests_below_append n ts us p.2 q)

-- ---- variables that have values

pub values_agree : (n : ℕ) (bs : List Bind) (c d : Vars) → AreBelow n bs → Agree n c d → HaveValues bs c → HaveValues bs d
values_agree n [] c d below agree h = tt
values_agree n (b ∷ bs) c d below agree h = ((h.0.0, agree.each b.var below.0 ∙ h.0.1), values_agree n bs c d below.1 agree h.1)

pub values_append : (as' bs : List Bind) (c : Vars) → HaveValues as' c → HaveValues bs c → HaveValues (as' ++ bs) c
values_append [] bs c p q = q
values_append (a ∷ as') bs c p q = (p.0, values_append as' bs c p.1 q)

pub held_agree : (n : ℕ) (env : List Bind) (c d : Vars) → AreBelow n env → Agree n c d → HaveHeld env c → HaveHeld env d
held_agree n env c d below agree h = record { each = λ x y e. let v = h.each x y e in (v.0, agree.each y (held_below n env x y below e) ∙ v.1) }

-- an environment that describes bindings gives its names values
pub described_held : (env : List Bind) (b : Bindings) (c : Vars) → Describes env b c → HaveHeld env c
described_held env b c h = record { each = λ x y e. by y (held env x) (value_of x b) (h.each x) e }
  where
    by : (y : CoreVar) (o : Option CoreVar) (p : Option Value) → SameAt o p c → o ≡ Some y → (v : Value) × (value_at y c ≡ Some v)
    by y None p s e = absurd cc
    by y (Some z) None s e = absurd s
    by y (Some z) (Some v) s e = let same : z ≡ y = cc in (v, subst (λ w. value_at w c ≡ Some v) same s)

pub valued_held : (env : List Bind) (c : Vars) → HaveValues env c → HaveHeld env c
valued_held env c h = record { each = λ x y e. by env x y h e }
  where
    by : (env : List Bind) (x : Name) (y : CoreVar) → HaveValues env c → held env x ≡ Some y → (v : Value) × (value_at y c ≡ Some v)
    by [] x y h e = absurd cc
    by (b ∷ bs) x y h e = first (b.name.index == x.index) (λ e. by bs x y h.1 e) e
      where
        first : (t : Bool) → (held bs x ≡ Some y → (v : Value) × (value_at y c ≡ Some v)) → (if t then Some b.var else held bs x) ≡ Some y → (v : Value) × (value_at y c ≡ Some v)
        first true k e = let same : b.var ≡ y = cc in (h.0.0, subst (λ w. value_at w c ≡ Some h.0.0) same h.0.1)
        first false k e = k e

-- ---- environments below a number

pub below_append : (n : ℕ) (as' bs : List Bind) → AreBelow n as' → AreBelow n bs → AreBelow n (as' ++ bs)
below_append n [] bs p q = q
below_append n (a ∷ as') bs p q = (p.0, below_append n as' bs p.1 q)

pub below_right : (n : ℕ) (as' bs : List Bind) → AreBelow n (as' ++ bs) → AreBelow n bs
below_right n [] bs p = p
below_right n (a ∷ as') bs p = below_right n as' bs p.1

-- Variables and what they hold.
use Rattle.std.proofs.Common.{◌≡◌, ℕ, ◌≤◌, Bool, true, false, if◌then◌else◌, ◌==◌, List, [], ◌∷◌, ◌++◌, Option, Some, None, refl, ap, ◌∙◌, subst, arith}
use Rattle.std.proofs.lemmas.Bool.Decides.{nat_tests}
use Rattle.ef_base.specs.declared.name.Name.{Name}
use Rattle.ef_base.specs.Texts.{Texts}
use Rattle.ef_core.specs.declared.env.Bind.{Bind}
use Rattle.ef_core.specs.declared.literal.CoreVar.{CoreVar}
use Rattle.ef_core.specs.declared.literal.CoreVar.TheVariants.{Numbered, Named}
use Rattle.ef_core.specs.Env.{held}
use Rattle.ef_core.specs.Plain.{trees}
use Rattle.ef_core.specs.Tree as c
use Rattle.ef_core.specs.Tree.{CoreTree}
use Rattle.ef_meaning.specs.Value.{Value}
use Rattle.ef_meaning.specs.End.{Gives, and_then}
use Rattle.ef_meaning.specs.Match.{Bindings, value_of}
use Rattle.ef_meaning.specs.Core.{Vars, Funs, Target, CoreModule, Levels, value_at, held_value, single, eval, eval_all}
use Rattle.ef_meaning.specs.Lowers.{SameAt, Describes, IsBelow, AreBelow, Agree, IsValue, AreValues, IsDrawn, AreDrawn}

same_number : (n : ℕ) → (n == n) ≡ true
same_number n = grind (arith, nat_tests)

pub here : (n : ℕ) (v : Value) (c : Vars) → value_at (Numbered n) ((Numbered n, v) ∷ c) ≡ Some v
here n v c = rw (same_number n) refl

pub there : (n : ℕ) (y : CoreVar) (v : Value) (c : Vars) → IsBelow n y → value_at y ((Numbered n, v) ∷ c) ≡ value_at y c
there n (Numbered i) v c lt = let other : (n == i) ≡ false = grind (arith, nat_tests) in rw other refl
there n (Named m) v c lt = refl

pub below_more : (m n : ℕ) (y : CoreVar) → m ≤ n → IsBelow m y → IsBelow n y
below_more m n (Numbered i) le lt = omega arith
below_more m n (Named x) le lt = tt

pub are_below_more : (m n : ℕ) (env : List Bind) → m ≤ n → AreBelow m env → AreBelow n env
are_below_more m n [] le p = tt
are_below_more m n (b ∷ bs) le p = (below_more m n b.var le p.0, are_below_more m n bs le p.1)

pub drawn_later : (m n : ℕ) (e : CoreTree) → m ≤ n → IsDrawn m e → IsDrawn n e
drawn_later m n (c.var x) le q = below_more m n x le q
drawn_later m n (c.lit l) le q = tt
drawn_later m n _ le q = absurd q

pub drawn_more : (m n : ℕ) (es : List CoreTree) → m ≤ n → AreDrawn m es → AreDrawn n es
drawn_more m n [] le p = tt
drawn_more m n (e ∷ es) le p = (drawn_later m n e le p.0, drawn_more m n es le p.1)

pub drawn_append : (n : ℕ) (es fs : List CoreTree) → AreDrawn n es → AreDrawn n fs → AreDrawn n (es ++ fs)
drawn_append n [] fs p q = q
drawn_append n (e ∷ es) fs p q = (p.0, drawn_append n es fs p.1 q)

pub held_below : (n : ℕ) (env : List Bind) (x : Name) (y : CoreVar) → AreBelow n env → held env x ≡ Some y → IsBelow n y
held_below n [] x y p q = absurd cc
held_below n (b ∷ bs) x y p q = by (b.name.index == x.index) (λ e. held_below n bs x y p.1 e) q
  where
    by : (t : Bool) → (held bs x ≡ Some y → IsBelow n y) → (if t then Some b.var else held bs x) ≡ Some y → IsBelow n y
    by true k e = let same : b.var ≡ y = cc in subst (IsBelow n) same p.0
    by false k e = k e

-- ---- one more variable

same_more : (n : ℕ) (v : Value) (d : Vars) (o : Option CoreVar) (p : Option Value) → ((y : CoreVar) → o ≡ Some y → IsBelow n y) → SameAt o p d → SameAt o p ((Numbered n, v) ∷ d)
same_more n v d None None h q = tt
same_more n v d None (Some u) h q = absurd q
same_more n v d (Some y) None h q = absurd q
same_more n v d (Some y) (Some u) h q = there n y v d (h y refl) ∙ q

pub describes_more : (n : ℕ) (env : List Bind) (b : Bindings) (d : Vars) (v : Value) → AreBelow n env → Describes env b d → Describes env b ((Numbered n, v) ∷ d)
describes_more n env b d v p q = record { each = λ x. same_more n v d (held env x) (value_of x b) (λ y e. held_below n env x y p e) (q.each x) }

pub agree_refl : (n : ℕ) (c : Vars) → Agree n c c
agree_refl n c = record { each = λ y lt. refl }

pub agree_more : (m n : ℕ) (c d : Vars) (v : Value) → m ≤ n → Agree m c d → Agree m c ((Numbered n, v) ∷ d)
agree_more m n c d v le q = record { each = λ y lt. there n y v d (below_more m n y le lt) ∙ q.each y lt }

-- fewer variables
pub agree_fewer : (m n : ℕ) (c d : Vars) → m ≤ n → Agree n c d → Agree m c d
agree_fewer m n c d le q = record { each = λ y lt. q.each y (below_more m n y le lt) }

pub agree_trans : (m n : ℕ) (c d x : Vars) → m ≤ n → Agree m c d → Agree n d x → Agree m c x
agree_trans m n c d x le p q = record { each = λ y lt. q.each y (below_more m n y le lt) ∙ p.each y lt }

-- ---- arguments

pub value_agree : (all : Texts) (n : ℕ) (e : CoreTree) (v : Value) (d x : Vars) → IsDrawn n e → Agree n d x → IsValue all e v d → IsValue all e v x
value_agree all n (c.var y) v d x p a q = a.each y p ∙ q
value_agree all n (c.lit l) v d x p a q = q
value_agree all n _ v d x p a q = absurd q

pub values_append : (all : Texts) (n : ℕ) (es fs : List CoreTree) (us vs : List Value) (d x : Vars) → AreDrawn n es → Agree n d x → AreValues all es us d → AreValues all fs vs x → AreValues all (es ++ fs) (us ++ vs) x
values_append all n [] fs [] vs d x p a q r = r
values_append all n [] fs (u ∷ us) vs d x p a q r = absurd q
values_append all n (e ∷ es) fs [] vs d x p a q r = absurd q
values_append all n (e ∷ es) fs (u ∷ us) vs d x p a q r = (value_agree all n e u d x p.0 a q.0, values_append all n es fs us vs d x p.1 a q.1 r)

pub value_eval : (w : CoreModule) (e : CoreTree) (v : Value) (ls : Levels) (d : Vars) (fs : Funs) (t : Target) → IsValue w.texts e v d → eval w e ls d fs t ≡ Gives (v ∷ []) t
value_eval w (c.var x) v ls d fs t p = ap (λ o. held_value o t) p
value_eval w (c.lit l) v ls d fs t p = ap (λ u. Gives (u ∷ []) t) p
value_eval w _ v ls d fs t p = absurd p

-- the values of arguments
pub values_eval : (w : CoreModule) (es : List CoreTree) (vs : List Value) (ls : Levels) (d : Vars) (fs : Funs) (t : Target) → AreValues w.texts es vs d → eval_all w (trees es) ls d fs t ≡ Gives vs t
values_eval w [] [] ls d fs t p = refl
values_eval w [] (v ∷ vs) ls d fs t p = absurd p
values_eval w (e ∷ es) [] ls d fs t p = absurd p
values_eval w (e ∷ es) (v ∷ vs) ls d fs t p =
    ap (λ o. and_then (and_then o single) (λ y u. and_then (eval_all w (trees es) ls d fs u) (λ ys z. Gives (y ∷ ys) z))) (value_eval w e v ls d fs t p.0)
    ∙ ap (λ o. and_then o (λ ys z. Gives (v ∷ ys) z)) (values_eval w es vs ls d fs t p.1)

-- Runs of let steps.
use Rattle.std.proofs.Common.{◌≡◌, ℕ, List, [], ◌∷◌, ◌++◌, refl, sym, ap, ◌∙◌}
use Rattle.ef_core.specs.Plain.{StepTree, steps}
use Rattle.ef_core.specs.Tree.{CoreTree, CoreSteps}
use Rattle.ef_forms.specs.Tree.{Tree}
use Rattle.ef_forms.specs.Plain.{trees}
use Rattle.ef_meaning.specs.Outside.{State}
use Rattle.ef_meaning.specs.End.{End, Gives, and_then}
use Rattle.ef_meaning.specs.Keeps.{Ahead}
use Rattle.ef_meaning.specs.Match.{Bindings}
use Rattle.ef_meaning.specs.Source as source
use Rattle.ef_meaning.specs.Source.{Module, Source}
use Rattle.ef_meaning.specs.Core as core
use Rattle.ef_meaning.specs.Core.{CoreModule, Vars, Funs, Target}
use Rattle.ef_meaning.specs.Lowers.{valued}
use Rattle.ef_meaning.proofs.Ends.{begins_refl, extends_refl, then_ahead, then_extends, then_same, then_then, then_gives}
use Rattle.ef_meaning.proofs.CoreLaws as laws
use Rattle.ef_meaning.proofs.Simulate.{Steady}

pub run_append : (w : CoreModule) (xs ys : List StepTree) (ls : core.Levels) (c : Vars) (fs : Funs) (t : Target) →
    core.eval_steps w (steps (xs ++ ys)) ls c fs t ≡ and_then (core.eval_steps w (steps xs) ls c fs t) (λ d u. core.eval_steps w (steps ys) ls d fs u)
run_append w [] ys ls c fs t = refl
run_append w (x ∷ xs) ys ls c fs t =
    then_same (and_then (core.eval w x.value ls c fs t) (λ vs u. core.given (core.bind x.vars vs c) u)) _ _ (λ d u. run_append w xs ys ls d fs u) ∙ sym (then_then (and_then (core.eval w x.value ls c fs t) (λ vs u. core.given (core.bind x.vars vs c) u)) _ _)

-- steps before steps and a value
pub valued_append : (w : CoreModule) (xs ys : List StepTree) (e : CoreTree) (ls : core.Levels) (c : Vars) (fs : Funs) (t : Target) →
    valued w (xs ++ ys) e ls c fs t ≡ and_then (core.eval_steps w (steps xs) ls c fs t) (λ d u. valued w ys e ls d fs u)
valued_append w xs ys e ls c fs t =
    ap (λ r. and_then r (λ d u. and_then (core.eval w e ls d fs u) (λ vs x. Gives (vs, d) x))) (run_append w xs ys ls c fs t)
    ∙ then_then (core.eval_steps w (steps xs) ls c fs t) _ _

pub steps_steady : (w : CoreModule) (ss : CoreSteps) (c : Vars) (fs : Funs) (t : Target) → Steady t.outside.events (λ m. core.eval_steps w ss (core.levels w m) c fs t)
steps_steady w ss c fs t = record {
  ahead = λ m. laws.steps_ahead w ss (core.levels w m) c fs t (laws.levels_grow w m);
  extends = λ m k le. laws.steps_extends w ss (core.levels w m) (core.levels w k) c fs t (laws.levels_below w m k le) (laws.levels_grow w k);
}

pub eval_steady : (w : CoreModule) (e : CoreTree) (c : Vars) (fs : Funs) (t : Target) → Steady t.outside.events (λ m. core.eval w e (core.levels w m) c fs t)
eval_steady w e c fs t = record { ahead = λ m. laws.core_ahead w m e c fs t; extends = λ m k le. laws.core_extends w m k le e c fs t }

-- one after the other
pub then_steady : {A B F : Type 0} (t : State F) (C : ℕ → End A (State F)) (D : ℕ → A → State F → End B (State F)) →
    Steady t.outside.events C → ((a : A) (u : State F) → Steady u.outside.events (λ m. D m a u)) → Steady t.outside.events (λ m. and_then (C m) (D m))
then_steady t C D p q = record {
  ahead = λ m. then_ahead t.outside.events (C m) (D m) (p.ahead m) (λ a u. (q a u).ahead m);
  extends = λ m k le. then_extends (C m) (C k) (D m) (D k) (p.extends m k le) (λ a u. (q a u).extends m k le) (λ a u. (q a u).ahead k);
}

-- an end that does not hang on the bound
pub const_steady : {A F : Type 0} (t : State F) (e : End A (State F)) → Ahead t.outside.events e → Steady t.outside.events (λ m. e)
const_steady t e p = record { ahead = λ m. p; extends = λ m k le. extends_refl e }

pub pair_steady : {A B F : Type 0} (h : A → B) (t : State F) (C : ℕ → End A (State F)) → Steady t.outside.events C → Steady t.outside.events (λ m. and_then (C m) (λ a u. Gives (h a) u))
pair_steady h t C p = then_steady t C (λ m a u. Gives (h a) u) p (λ a u. const_steady u (Gives (h a) u) (begins_refl u.outside.events))

pub valued_steady : (w : CoreModule) (ss : List StepTree) (e : CoreTree) (c : Vars) (fs : Funs) (t : Target) → Steady t.outside.events (λ m. valued w ss e (core.levels w m) c fs t)
valued_steady w ss e c fs t = then_steady t (λ m. core.eval_steps w (steps ss) (core.levels w m) c fs t) (λ m d u. and_then (core.eval w e (core.levels w m) d fs u) (λ vs x. Gives (vs, d) x))
    (steps_steady w (steps ss) c fs t) (λ d u. pair_steady (λ vs. (vs, d)) u (λ m. core.eval w e (core.levels w m) d fs u) (eval_steady w e d fs u))

-- ---- lists of source expressions

pub all_append : (w : Module) (es fs : List Tree) (ls : source.Levels) (b : Bindings) (s : Source) →
    source.eval_all w (trees (es ++ fs)) ls b s ≡ and_then (source.eval_all w (trees es) ls b s) (λ a t. and_then (source.eval_all w (trees fs) ls a.1 t) (λ c u. Gives (a.0 ++ c.0, c.1) u))
all_append w [] fs ls b s = sym (then_gives (source.eval_all w (trees fs) ls b s))
all_append w (e ∷ es) fs ls b s =
    then_same (source.eval w e ls b s) _ _ (λ a t.
    ap (λ r. and_then r (λ c u. Gives (a.0 ∷ c.0, c.1) u)) (all_append w es fs ls a.1 t)
    ∙ then_then (source.eval_all w (trees es) ls a.1 t) _ _
    ∙ then_same (source.eval_all w (trees es) ls a.1 t) _ _ (λ c u. then_then (source.eval_all w (trees fs) ls c.1 u) _ _)
    ∙ sym (then_then (source.eval_all w (trees es) ls a.1 t) _ _))
    ∙ sym (then_then (source.eval w e ls b s) _ _)

-- a body is what goes before, and its last expression
pub body_append : (w : Module) (es : List Tree) (e : Tree) (ls : source.Levels) (b : Bindings) (s : Source) →
    source.eval_body w (trees (es ++ e ∷ [])) ls b s ≡ and_then (source.eval_all w (trees es) ls b s) (λ a t. source.eval w e ls a.1 t)
body_append w [] e ls b s = refl
body_append w (d ∷ []) e ls b s = sym (then_then (source.eval w d ls b s) _ _)
body_append w (d ∷ f ∷ es) e ls b s =
    then_same (source.eval w d ls b s) _ _ (λ a t. body_append w (f ∷ es) e ls a.1 t ∙ sym (then_then (source.eval_all w (trees (f ∷ es)) ls a.1 t) _ _))
    ∙ sym (then_then (source.eval w d ls b s) _ _)

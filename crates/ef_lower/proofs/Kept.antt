-- Expressions that mean the same, and a name that is bound to the variable of a value.
use Rattle.std.proofs.Common.{◌≡◌, ◌==◌, ℕ, Bool, true, false, if◌then◌else◌, List, [], ◌∷◌, ◌++◌, Option, Some, None, refl, sym, ap, ◌∙◌, subst}
use Rattle.ef_base.specs.declared.name.Name.{Name}
use Rattle.ef_base.specs.declared.fault.Place.{Place}
use Rattle.ef_base.specs.Texts.{Texts}
use Rattle.ef_core.specs.declared.env.Bind.{Bind}
use Rattle.ef_core.specs.declared.literal.CoreVar.{CoreVar}
use Rattle.ef_core.specs.Env.{bind, held}
use Rattle.ef_core.specs.Plain.{StepTree, steps}
use Rattle.ef_core.specs.Tree as c
use Rattle.ef_core.specs.Tree.{CoreTree}
use Rattle.ef_core.proofs.Held.{held_back, held_front}
use Rattle.ef_forms.specs.Plain.{trees}
use Rattle.ef_forms.specs.Tree as t
use Rattle.ef_forms.specs.Tree.{Tree, tree}
use Rattle.ef_meaning.specs.Value.{Value}
use Rattle.ef_meaning.specs.End.{End, Gives, Wrong, and_then}
use Rattle.ef_meaning.specs.Keeps.{Ahead, Keeps}
use Rattle.ef_meaning.specs.Match.{Bindings, match_name, value_of}
use Rattle.ef_meaning.specs.Source as source
use Rattle.ef_meaning.specs.Source.{Module, Source}
use Rattle.ef_meaning.specs.Core as core
use Rattle.ef_meaning.specs.Core.{Code, CoreModule, Funs, Target, Vars, value_at}
use Rattle.ef_meaning.specs.Lowers.{After, AfterAll, Agree, AreBelow, AreValues, Describes, Entry, IsBelow, KeepsAll, KeepsExpr, Related, SameAt, valued}
use Rattle.ef_meaning.proofs.Bodies.{not_bound, same_name}
use Rattle.ef_meaning.proofs.Ends.{begins_refl, then_ahead, then_gives, then_then}
use Rattle.ef_meaning.proofs.Matches.{held_keeps}
use Rattle.ef_meaning.proofs.SourceLaws as laws
use Rattle.ef_meaning.proofs.Simulate.{gives_keeps, keeps_same, then_keeps}
use Rattle.ef_meaning.proofs.Steps.{const_steady, steps_steady}

-- ---- expressions that mean the same

module _ (now : Texts) (d e : Tree) (same_eval : (w : Module) (ls : source.Levels) (b : Bindings) (s : Source) → source.eval w d ls b s ≡ source.eval w e ls b s) where
  all_as : {n0 n1 : ℕ} {env0 env1 : List Bind} {added : List StepTree} {x : CoreTree} → KeepsAll now (e ∷ []) n0 env0 added n1 env1 (x ∷ []) → KeepsAll now (d ∷ []) n0 env0 added n1 env1 (x ∷ [])
  all_as {n0} {n1} {env0} {env1} {added} {x} k = record {
    drawn = k.drawn;
    below = k.below;
    arguments_drawn = k.arguments_drawn;
    made = k.made;
    bodies = k.bodies;
    keeps = λ b c desc w cw world all inc n calls en fs s t hides same.
        keeps_same (AfterAll w.texts n0 c env1 (x ∷ [])) (Related cw all en) n _ (source.eval_all w (trees (e ∷ [])) (source.levels w n) b s) _ (λ m. core.eval_steps cw (steps added) (core.levels cw m) c fs t)
        (ap (λ o. and_then o (λ a u. Gives (a.0 ∷ [], a.1) u)) (same_eval w (source.levels w n) b s)) refl
        (k.keeps b c desc w cw world all inc n calls en fs s t hides same);
  }

  pub keeps_as : {n0 n1 : ℕ} {env0 env1 : List Bind} {added : List StepTree} {x : CoreTree} → KeepsExpr now e n0 env0 added n1 env1 x → KeepsExpr now d n0 env0 added n1 env1 x
  keeps_as {n0} {n1} {env0} {env1} {added} {x} k = record {
    drawn = k.drawn;
    below = k.below;
    made = k.made;
    bodies = k.bodies;
    keeps = λ b c desc w cw world all inc n calls en fs s t hides same.
        keeps_same (After n0 c env1) (Related cw all en) n _ (source.source w n e b s) _ (λ m. valued cw added x (core.levels cw m) c fs t)
        (same_eval w (source.levels w n) b s) refl
        (k.keeps b c desc w cw world all inc n calls en fs s t hides same);
    argument = λ simple. all_as (k.argument simple);
  }

-- `_` matches every value
pub any_keeps : (now : Texts) (q r : Place) (e : Tree) {n0 n1 : ℕ} {env0 env1 : List Bind} {added : List StepTree} {x : CoreTree} → KeepsExpr now e n0 env0 added n1 env1 x → KeepsExpr now (tree q (t.matching (tree r t.any) e)) n0 env0 added n1 env1 x
any_keeps now q r e k = keeps_as now (tree q (t.matching (tree r t.any) e)) e (λ w ls b s. then_gives (source.eval w e ls b s)) k

-- a list that has only a tail
pub tail_keeps : (now : Texts) (p : Place) (e : Tree) {n0 n1 : ℕ} {env0 env1 : List Bind} {added : List StepTree} {x : CoreTree} → KeepsExpr now e n0 env0 added n1 env1 x → KeepsExpr now (tree p (t.list_to (trees []) e)) n0 env0 added n1 env1 x
tail_keeps now p e k = keeps_as now (tree p (t.list_to (trees []) e)) e (λ w ls b s. then_gives (source.eval w e ls b s)) k

-- ---- a name that is bound

describes_bind : (env : List Bind) (b : Bindings) (d : Vars) (x : Name) (y : CoreVar) (v : Value) → held env x ≡ None → value_at y d ≡ Some v → Describes env b d → Describes (env ++ bind x y ∷ []) ((x, v) ∷ b) d
describes_bind env b d x y v free has q = record { each = λ z. by z (held env z) refl }
  where
    fresh : (z : Name) → held env z ≡ None → (t : Bool) → SameAt (if t then Some y else None) (if t then Some v else value_of z b) d
    fresh z e true = has
    fresh z e false = subst (λ o. SameAt o (value_of z b) d) e (q.each z)

    old : (z : Name) (u : CoreVar) → held env z ≡ Some u → (t : Bool) → (x.index == z.index) ≡ t → SameAt (Some u) (if t then Some v else value_of z b) d
    old z u e true same = let there : held env x ≡ Some u = ap (held env) (same_name x z same) ∙ e in absurd cc
    old z u e false same = subst (λ o. SameAt o (value_of z b) d) e (q.each z)

    by : (z : Name) (o : Option CoreVar) → held env z ≡ o → SameAt (held (env ++ bind x y ∷ []) z) (value_of z ((x, v) ∷ b)) d
    by z None e = subst (λ o. SameAt o (value_of z ((x, v) ∷ b)) d) (sym (held_back env (bind x y ∷ []) z e)) (fresh z e (x.index == z.index))
    by z (Some u) e = subst (λ o. SameAt o (value_of z ((x, v) ∷ b)) d) (sym (held_front env (bind x y ∷ []) z u e)) (old z u e (x.index == z.index) refl)

below_bind : (n : ℕ) (env : List Bind) (x : Name) (y : CoreVar) → AreBelow n env → IsBelow n y → AreBelow n (env ++ bind x y ∷ [])
below_bind n [] x y p q = (q, tt)
below_bind n (b ∷ bs) x y p q = (p.0, below_bind n bs x y p.1 q)

-- a match with a name that is new
module _ (now : Texts) (q r : Place) (x : Name) (e : Tree) (n0 : ℕ) (env0 : List Bind) (added : List StepTree) (n1 : ℕ) (env1 : List Bind) (y : CoreVar) (free : held env1 x ≡ None) (k : KeepsAll now (e ∷ []) n0 env0 added n1 env1 (c.var y ∷ [])) where
  abbrev bound_tree : Tree
  bound_tree = tree q (t.matching (tree r (t.var x)) e)

  abbrev env2 : List Bind
  env2 = env1 ++ bind x y ∷ []

  -- the source, once the value is there
  abbrev bound_all : Module → List Value → Bindings → Source → End (List Value × Bindings) Source
  bound_all w (v ∷ []) b s = and_then (source.matched (match_name x (value_of x b) v b) v s) (λ a t. Gives (a.0 ∷ [], a.1) t)
  bound_all w _ b s = Wrong

  bound_ahead : (w : Module) (vs : List Value) (b : Bindings) (s : Source) → Ahead s.outside.events (bound_all w vs b s)
  bound_ahead w [] b s = tt
  bound_ahead w (v ∷ []) b s = then_ahead _ (source.matched (match_name x (value_of x b) v b) v s) _ (laws.matched_ahead (match_name x (value_of x b) v b) v s) (λ a t. begins_refl t.outside.events)
  bound_ahead w (v ∷ u ∷ vs) b s = tt

  given : (w : Module) (cw : CoreModule) (all : List Entry) (en : List Code) (n : ℕ) (d : Vars) (vs : List Value) (b : Bindings) (f : Vars) (u : Source) (z : Target) → Related cw all en u z → AreValues w.texts (c.var y ∷ []) vs f → Describes env1 b f → Agree n0 d f →
      Keeps (AfterAll w.texts n0 d env2 (c.var y ∷ [])) (Related cw all en) n (bound_all w vs b u) (λ m. Gives f z)
  given w cw all en n d [] b f u z related are names agree = absurd are
  given w cw all en n d (v ∷ []) b f u z related are names agree =
      keeps_same (AfterAll w.texts n0 d env2 (c.var y ∷ [])) (Related cw all en) n _ (Gives (v ∷ [], (x, v) ∷ b) u) _ (λ m. Gives f z)
      (ap (λ o. and_then (source.matched (match_name x o v b) v u) (λ a t. Gives (a.0 ∷ [], a.1) t)) (not_bound env1 b f x names free)) refl
      (gives_keeps (AfterAll w.texts n0 d env2 (c.var y ∷ [])) (Related cw all en) n (v ∷ [], (x, v) ∷ b) f u z (record { values = are; names = describes_bind env1 b f x y v free are.0 names; agree = agree }) related)
  given w cw all en n d (v ∷ o ∷ vs) b f u z related are names agree = absurd are.1

  bound_all_keeps : KeepsAll now (bound_tree ∷ []) n0 env0 added n1 env2 (c.var y ∷ [])
  bound_all_keeps = record {
    drawn = k.drawn;
    below = below_bind n1 env1 x y k.below k.arguments_drawn.0;
    arguments_drawn = k.arguments_drawn;
    made = k.made;
    bodies = k.bodies;
    keeps = λ b d desc w cw world all inc n calls en fs s t hides same.
        let R = AfterAll w.texts n0 d env2 (c.var y ∷ []) in
        keeps_same R (Related cw all en) n _ (and_then (source.eval_all w (trees (e ∷ [])) (source.levels w n) b s) (λ a u. bound_all w a.0 a.1 u)) _
        (λ m. and_then (core.eval_steps cw (steps added) (core.levels cw m) d fs t) (λ f u. Gives f u))
        (then_then (source.eval w e (source.levels w n) b s) _ _ ∙ sym (then_then (source.eval w e (source.levels w n) b s) _ _))
        (λ i m. sym (then_gives (core.eval_steps cw (steps added) (core.levels cw m) d fs t)) i)
        (then_keeps (AfterAll w.texts n0 d env1 (c.var y ∷ [])) R (Related cw all en) n (source.eval_all w (trees (e ∷ [])) (source.levels w n) b s) (λ m. core.eval_steps cw (steps added) (core.levels cw m) d fs t)
        (λ a u. bound_all w a.0 a.1 u) (λ m f u. Gives f u)
        (steps_steady cw (steps added) d fs t).extends
        (λ f u. const_steady u (Gives f u) (begins_refl u.outside.events))
        (λ a u. bound_ahead w a.0 a.1 u)
        (k.keeps b d desc w cw world all inc n calls en fs s t hides same)
        (λ a f u z after related. given w cw all en n d a.0 a.1 f u z related after.values after.names after.agree));
  }

  pub bound_keeps : KeepsExpr now bound_tree n0 env0 added n1 env2 (c.var y)
  bound_keeps = held_keeps now bound_tree n0 env0 added n1 env2 (c.var y) bound_all_keeps

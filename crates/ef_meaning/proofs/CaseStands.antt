-- A `case` whose clauses export no names is kept: it stands for itself, behind the steps of its argument.
use Rattle.std.proofs.Common.{if◌then◌else◌, ◌≡◌, ◌+◌, ◌≤◌, ◌||◌, ℕ, List, [], ◌∷◌, ◌++◌, refl, sym, ap, ◌∙◌, subst, arith, append-nil}
use Rattle.ef_base.specs.declared.fault.Place.{Place}
use Rattle.ef_base.specs.Texts.{Texts}
use Rattle.ef_core.specs.declared.env.Bind.{Bind}
use Rattle.ef_core.specs.declared.literal.CoreVar.{CoreVar}
use Rattle.ef_core.specs.Plain.{StepTree, ClauseTree, steps}
use Rattle.ef_core.specs.Tree.{CoreTree}
use Rattle.ef_forms.specs.Tree.{Tree, Clauses, tree, case_of}
use Rattle.ef_forms.specs.Plain.{trees}
use Rattle.ef_forms.specs.Sure.{clauses_sure}
use Rattle.ef_meaning.specs.Value.{Value}
use Rattle.ef_meaning.specs.Exception.{Error, case_clause}
use Rattle.ef_meaning.specs.End.{Gives, Raises, Wrong, and_then}
use Rattle.ef_meaning.specs.Keeps.{Ahead, Keeps}
use Rattle.ef_meaning.specs.Match.{Bindings}
use Rattle.ef_meaning.specs.Named.{bound_names, name_set}
use Rattle.ef_meaning.specs.Source as source
use Rattle.ef_meaning.specs.Source.{Module, Source, kept}
use Rattle.ef_meaning.specs.Core as core
use Rattle.ef_meaning.specs.Core.{CoreModule, Vars, Funs, Target}
use Rattle.ef_meaning.specs.Lowers.{Describes, Agree, Entry, Includes, HidesNone, CallsKept, Related, Worlds, AreValues, After, AfterAll, AllBound, Exports, KeepsAll, KeepsExpr, valued}
use Rattle.ef_meaning.specs.Patterns.{IsGuard, KeepsPicks}
use Rattle.ef_meaning.specs.Cases.{FailsValue, whole_case}
use Rattle.ef_meaning.proofs.Ends.{begins_refl, then_ahead, then_then}
use Rattle.ef_meaning.proofs.SourceLaws as laws
use Rattle.ef_meaning.proofs.Simulate.{keeps_same, gives_keeps, then_keeps}
use Rattle.ef_meaning.proofs.Variables.{are_below_more, agree_refl}
use Rattle.ef_meaning.proofs.Steps.{steps_steady, eval_steady, const_steady, pair_steady}
use Rattle.ef_meaning.proofs.Parts.{includes_left, includes_right, bodies_both}
use Rattle.ef_meaning.proofs.CaseKeeps.{describes_kept, whole_keeps}

-- no names have no values
no_values : (b : Bindings) (vs : List Value) → AllBound [] b vs → vs ≡ []
no_values b [] all = refl
no_values b (v ∷ vs) all = absurd all

module _ (now : Texts) (q : Place) (e : Tree) (cs : Clauses) (n0 : ℕ) (env0 : List Bind) (added : List StepTree) (n1 : ℕ) (env1 : List Bind) (x : CoreTree) (made : List ClauseTree) (always : CoreTree) (z : CoreVar) (fails : CoreTree) (n4 : ℕ)
    (k : KeepsAll now (e ∷ []) n0 env0 added n1 env1 (x ∷ [])) (picks : KeepsPicks now cs env1 [] made) (none : IsGuard now [] always) (failing : FailsValue now z case_clause fails)
    (names : (y : ℕ) → (bound_names env1 y || name_set [] y) ≡ (bound_names env1 y || clauses_sure cs y)) (enough : n1 ≤ n4) where
  abbrev the_case : CoreTree
  the_case = whole_case x made always z fails

  -- the source, once the value is there
  abbrev picked : Module → source.Levels → Value → Bindings → Source → source.Answer
  picked w ls v b s = if source.are_wide 1 cs then source.pick w cs (v ∷ []) ls b (λ u. u) (λ u. Raises Error (case_clause v) u) s else Wrong

  abbrev picked_value : Module → source.Levels → List Value → Bindings → Source → source.Answer
  picked_value w ls (v ∷ []) b s = and_then (picked w ls v b s) (λ r u. Gives (r.0, kept (clauses_sure cs) r.1 b) u)
  picked_value w ls _ b s = Wrong

  picked_ahead : (w : Module) (n : ℕ) (vs : List Value) (b : Bindings) (s : Source) → Ahead s.outside.events (picked_value w (source.levels w n) vs b s)
  picked_ahead w n [] b s = tt
  picked_ahead w n (v ∷ []) b s = then_ahead _ (picked w (source.levels w n) v b s) _ (laws.case_ahead w cs v (source.levels w n) b s (laws.levels_grow w n)) (λ r u. begins_refl u.outside.events)
  picked_ahead w n (v ∷ u ∷ vs) b s = tt

  module _ (w : Module) (cw : CoreModule) (world : Worlds now w cw) (all : List Entry) (includes : Includes picks.entries all) (n : ℕ) (calls : (m : ℕ) → m ≤ n → CallsKept w cw all m) (en : List core.Code) (c : Vars) (fs : Funs) (hides : HidesNone cw fs) where
    abbrev R : (Value × Bindings) → (List Value × Vars) → Type 0
    R = After n0 c env1

    given : (vs : List Value) (b : Bindings) (d : Vars) (u : Source) (y : Target) → Related cw all en u y → AreValues w.texts (x ∷ []) vs d → Describes env1 b d → Agree n0 c d →
        Keeps R (Related cw all en) n (picked_value w (source.levels w n) vs b u) (λ m. and_then (core.eval cw the_case (core.levels cw m) d fs y) (λ us t. Gives (us, d) t))
    given [] b d u y related are described agree = absurd are
    given (v ∷ []) b d u y related are described agree =
        then_keeps (Exports []) R (Related cw all en) n (picked w (source.levels w n) v b u) (λ m. core.eval cw the_case (core.levels cw m) d fs y) (λ r s. Gives (r.0, kept (clauses_sure cs) r.1 b) s) (λ m us t. Gives (us, d) t)
        (eval_steady cw the_case d fs y).extends
        (λ us t. const_steady t (Gives (us, d) t) (begins_refl t.outside.events))
        (λ r s. begins_refl s.outside.events)
        (whole_keeps now q e cs n0 env0 added n1 env1 x [] made always z fails n1 (n1 + 1) k picks none failing names (omega arith) (omega arith) w cw world all includes n calls en c fs hides v b d u y related are.0 described agree)
        (λ r us s t exports same. gives_keeps R (Related cw all en) n (r.0, kept (clauses_sure cs) r.1 b) (us, d) s t
        (record {
          value = exports.is ∙ ap (λ l. r.0 ∷ l) (no_values r.1 exports.names exports.bound);
          names = subst (λ l. Describes l (kept (clauses_sure cs) r.1 b) d) (append-nil env1) (describes_kept n1 n1 env1 [] (clauses_sure cs) names k.below [] b r.1 d d d described (agree_refl n1 d) tt refl);
          agree = agree;
        }) same)
    given (v ∷ o ∷ vs) b d u y related are described agree = absurd are.1

  -- the argument's steps, and then the case
  pub case_stands : KeepsExpr now (tree q (case_of e cs)) n0 env0 added n4 env1 the_case
  case_stands = record {
    drawn = let one = k.drawn in omega arith;
    below = are_below_more n1 n4 env1 enough k.below;
    made = k.made ++ picks.entries;
    bodies = bodies_both now k.made picks.entries k.bodies picks.bodies;
    keeps = λ b c desc w cw world all inc n calls en fs s t hides same.
        let Q = Related cw all en in
        keeps_same (After n0 c env1) Q n _ (and_then (source.eval_all w (trees (e ∷ [])) (source.levels w n) b s) (λ a u. picked_value w (source.levels w n) a.0 a.1 u)) _ (λ m. valued cw added the_case (core.levels cw m) c fs t)
        (sym (then_then (source.eval w e (source.levels w n) b s) _ _)) refl
        (then_keeps (AfterAll w.texts n0 c env1 (x ∷ [])) (After n0 c env1) Q n (source.eval_all w (trees (e ∷ [])) (source.levels w n) b s) (λ m. core.eval_steps cw (steps added) (core.levels cw m) c fs t)
        (λ a u. picked_value w (source.levels w n) a.0 a.1 u) (λ m d u. and_then (core.eval cw the_case (core.levels cw m) d fs u) (λ us y. Gives (us, d) y))
        (steps_steady cw (steps added) c fs t).extends
        (λ d u. pair_steady (λ us. (us, d)) u (λ m. core.eval cw the_case (core.levels cw m) d fs u) (eval_steady cw the_case d fs u))
        (λ a u. picked_ahead w n a.0 a.1 u)
        (k.keeps b c desc w cw world all (includes_left k.made picks.entries all inc) n calls en fs s t hides same)
        (λ a d u y held r. given w cw world all (includes_right k.made picks.entries all inc) n calls en c fs hides a.0 a.1 d u y r held.values held.names held.agree));
    argument = λ simple. absurd simple;
  }

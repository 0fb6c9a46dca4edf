-- A `case` is kept: a step whose variables hold its value and the names that every clause binds.
use Rattle.std.proofs.Common.{◌≡◌, ◌+◌, ◌<◌, ◌≤◌, ◌==◌, ◌||◌, ℕ, Bool, true, false, if◌then◌else◌, List, [], ◌∷◌, ◌++◌, length, Option, Some, None, refl, sym, ap, ◌∙◌, subst, arith}
use Rattle.std.specs.Prelude.{filter}
use Rattle.ef_base.specs.declared.name.Name.{Name}
use Rattle.ef_base.specs.declared.fault.Place.{Place}
use Rattle.ef_base.specs.Texts.{Texts, Extends}
use Rattle.ef_core.specs.declared.env.Bind.{Bind}
use Rattle.ef_core.specs.declared.literal.CoreVar.{CoreVar}
use Rattle.ef_core.specs.declared.literal.CoreVar.TheVariants.{Numbered}
use Rattle.ef_core.specs.Env.{held}
use Rattle.ef_core.specs.Plain as plain
use Rattle.ef_core.specs.Plain.{StepTree, ClauseTree, clauses, steps}
use Rattle.ef_core.specs.Tree as to
use Rattle.ef_core.specs.Tree.{CoreTree, CoreClauses}
use Rattle.ef_forms.specs.Tree.{Tree, Clauses, tree, case_of}
use Rattle.ef_forms.specs.Plain.{trees}
use Rattle.ef_forms.specs.Ways.{NameSet}
use Rattle.ef_forms.specs.Sure.{clauses_sure}
use Rattle.ef_meaning.specs.Value.{Value}
use Rattle.ef_meaning.specs.Exception.{Error, case_clause}
use Rattle.ef_meaning.specs.End.{End, Gives, Raises, Wrong, and_then}
use Rattle.ef_meaning.specs.Keeps.{Ahead, Keeps}
use Rattle.ef_meaning.specs.Match.{Bindings, value_of}
use Rattle.ef_meaning.specs.Named.{bound_names, name_set}
use Rattle.ef_meaning.specs.Source as source
use Rattle.ef_meaning.specs.Source.{Module, Source, kept}
use Rattle.ef_meaning.specs.Core as core
use Rattle.ef_meaning.specs.Core.{CoreModule, Vars, Funs, Target, value_at}
use Rattle.ef_meaning.specs.Lowers.{SameAt, Describes, AreBelow, Agree, Entry, Includes, HidesNone, CallsKept, Related, Worlds, IsValue, AreValues, AfterAll, AllBound, Exports, KeepsAll, params_from, env_from}
use Rattle.ef_meaning.specs.Patterns.{IsGuard, KeepsPicks}
use Rattle.ef_meaning.specs.Cases.{FailsValue, case_step, last_clause, whole_case}
use Rattle.ef_meaning.proofs.Ends.{begins_refl, then_ahead, then_same, then_then}
use Rattle.ef_meaning.proofs.SourceLaws as laws
use Rattle.ef_meaning.proofs.Simulate.{keeps_same, when_keeps, gives_keeps, const_keeps, then_keeps}
use Rattle.ef_meaning.proofs.Variables.{here, held_below, are_below_more, agree_refl, agree_more, agree_fewer, agree_trans, value_eval}
use Rattle.ef_meaning.proofs.Steps.{run_append, steps_steady, eval_steady, const_steady}
use Rattle.ef_meaning.proofs.Bodies.{same_name, not_bound}
use Rattle.ef_meaning.proofs.Covers.{value_behind, value_filter, value_front}
use Rattle.ef_meaning.proofs.Parts.{includes_left, includes_right, bodies_both}
use Rattle.ef_meaning.proofs.Picks.{all_fit, clause_taken, pick_append}
use Rattle.ef_meaning.proofs.Fails.{value_here}
use Rattle.ef_meaning.proofs.Renamed.{bound_agree, bound_from, held_behind, held_front, renamed_below}

-- ---- names under their new variables

-- a name that an environment does not have
not_named : (env : List Bind) (x : Name) → held env x ≡ None → bound_names env x.index ≡ false
not_named [] x e = refl
not_named (b ∷ bs) x e = by (b.name.index == x.index) (λ h. not_named bs x h) e
  where
    by : (t : Bool) → (held bs x ≡ None → bound_names bs x.index ≡ false) → (if t then Some b.var else held bs x) ≡ None → (t || bound_names bs x.index) ≡ false
    by true k h = absurd cc
    by false k h = k h

-- as many values as names
bound_count : (xs : List Name) (b : Bindings) (vs : List Value) → AllBound xs b vs → length vs ≡ length xs
bound_count [] b [] p = refl
bound_count [] b (v ∷ vs) p = absurd p
bound_count (x ∷ xs) b [] p = absurd p
bound_count (x ∷ xs) b (v ∷ vs) p = let rest = bound_count xs b vs p.1 in omega arith

-- exported names under the variables from a number on
exported_at : (n : ℕ) (xs : List Name) (vs : List Value) (b : Bindings) (d e : Vars) (x : Name) → AllBound xs b vs → core.bind (params_from n xs) vs d ≡ Some e →
    SameAt (held (env_from n xs) x) (if name_set xs x.index then value_of x b else None) e
exported_at n [] vs b d e x all set = tt
exported_at n (z ∷ xs) [] b d e x all set = absurd all
exported_at n (z ∷ xs) (v ∷ vs) b d e x all set = by (z.index == x.index) refl (exported_at (n + 1) xs vs b ((Numbered n, v) ∷ d) e x all.1 set)
  where
    first : value_at (Numbered n) e ≡ Some v
    first = (bound_agree (n + 1) xs vs ((Numbered n, v) ∷ d) e set).each (Numbered n) (omega arith) ∙ here n v d

    by : (t : Bool) → (z.index == x.index) ≡ t → SameAt (held (env_from (n + 1) xs) x) (if name_set xs x.index then value_of x b else None) e →
        SameAt (if t then Some (Numbered n) else held (env_from (n + 1) xs) x) (if t || name_set xs x.index then value_of x b else None) e
    by true is rest = subst (λ o. SameAt (Some (Numbered n)) o e) (sym (subst (λ y. value_of y b ≡ Some v) (same_name z x is) all.0)) first
    by false is rest = rest

-- the environment from before with the exported names
module _ (n1 n : ℕ) (env : List Bind) (sure : List Name) (set : NameSet) (names : (y : ℕ) → (bound_names env y || name_set sure y) ≡ (bound_names env y || set y)) (below : AreBelow n1 env) where
  pub describes_kept : (vs : List Value) (b c : Bindings) (d m e : Vars) → Describes env b d → Agree n1 d e → AllBound sure c vs → core.bind (params_from n sure) vs m ≡ Some e → Describes (env ++ env_from n sure) (kept set c b) e
  describes_kept vs b c d m e desc agree all bound = record { each = λ x. by x (held env x) refl }
    where
      old : (x : Name) (y : CoreVar) (o : Option Value) → held env x ≡ Some y → value_of x b ≡ o → SameAt (Some y) o d → SameAt (Some y) (value_of x (kept set c b)) e
      old x y None is e1 p = absurd p
      old x y (Some u) is e1 p = subst (λ o. SameAt (Some y) o e) (sym (value_front b (filter (λ q. set q.0.index) c) x u e1)) (agree.each y (held_below n1 env x y below is) ∙ p)

      sets : (x : Name) → held env x ≡ None → name_set sure x.index ≡ set x.index
      sets x is = subst (λ t. (t || name_set sure x.index) ≡ (t || set x.index)) (not_named env x is) (names x.index)

      by : (x : Name) (o : Option CoreVar) → held env x ≡ o → SameAt (held (env ++ env_from n sure) x) (value_of x (kept set c b)) e
      by x (Some y) is =
          subst (λ o. SameAt o (value_of x (kept set c b)) e) (sym (held_front env (env_from n sure) x y is))
          (old x y (value_of x b) is refl (subst (λ o. SameAt o (value_of x b) d) is (desc.each x)))
      by x None is =
          subst (λ o. SameAt o (value_of x (kept set c b)) e) (sym (held_behind env (env_from n sure) x is))
          (subst (λ o. SameAt (held (env_from n sure) x) o e)
          (ap (λ t. if t then value_of x c else None) (sets x is) ∙ sym (value_filter set c x) ∙ sym (value_behind b (filter (λ q. set q.0.index) c) x (not_bound env b d x desc is)))
          (exported_at n sure vs c m e x all bound))

-- ---- a case

bound_ahead : (o : Option Vars) (s : Target) → Ahead s.outside.events (and_then (core.given o s) (λ m t. Gives m t))
bound_ahead None s = tt
bound_ahead (Some d) s = begins_refl s.outside.events

module _ (now : Texts) (q : Place) (e : Tree) (cs : Clauses) (n0 : ℕ) (env0 : List Bind) (added : List StepTree) (n1 : ℕ) (env1 : List Bind) (x : CoreTree) (sure : List Name) (made : List ClauseTree) (always : CoreTree) (z : CoreVar) (fails : CoreTree) (n3 n4 : ℕ)
    (k : KeepsAll now (e ∷ []) n0 env0 added n1 env1 (x ∷ [])) (picks : KeepsPicks now cs env1 sure made) (none : IsGuard now [] always) (failing : FailsValue now z case_clause fails)
    (names : (y : ℕ) → (bound_names env1 y || name_set sure y) ≡ (bound_names env1 y || clauses_sure cs y)) (later_step : n1 ≤ n3) (enough : n3 + 1 + length sure ≤ n4) where
  abbrev the_step : StepTree
  the_step = case_step n3 sure x made always z fails

  abbrev env2 : List Bind
  env2 = env1 ++ env_from (n3 + 1) sure

  abbrev last_clauses : CoreClauses
  last_clauses = clauses (last_clause always (z ∷ []) fails ∷ [])

  -- the source, once the value is there
  abbrev picked : Module → source.Levels → Value → Bindings → Source → source.Answer
  picked w ls v b s = if source.are_wide 1 cs then source.pick w cs (v ∷ []) ls b (λ u. u) (λ u. Raises Error (case_clause v) u) s else Wrong

  abbrev picked_all : Module → source.Levels → List Value → Bindings → Source → End (List Value × Bindings) Source
  picked_all w ls (v ∷ []) b s = and_then (picked w ls v b s) (λ r u. Gives (r.0 ∷ [], kept (clauses_sure cs) r.1 b) u)
  picked_all w ls _ b s = Wrong

  picked_ahead : (w : Module) (n : ℕ) (vs : List Value) (b : Bindings) (s : Source) → Ahead s.outside.events (picked_all w (source.levels w n) vs b s)
  picked_ahead w n [] b s = tt
  picked_ahead w n (v ∷ []) b s = then_ahead _ (picked w (source.levels w n) v b s) _ (laws.case_ahead w cs v (source.levels w n) b s (laws.levels_grow w n)) (λ r u. begins_refl u.outside.events)
  picked_ahead w n (v ∷ u ∷ vs) b s = tt

  module _ (w : Module) (cw : CoreModule) (world : Worlds now w cw) (all : List Entry) (includes : Includes picks.entries all) (n : ℕ) (calls : (m : ℕ) → m ≤ n → CallsKept w cw all m) (en : List core.Code) (c : Vars) (fs : Funs) (hides : HidesNone cw fs) where
    later : Extends now cw.texts
    later = subst (Extends now) (sym world.texts) world.begins

    abbrev R : (List Value × Bindings) → Vars → Type 0
    R = AfterAll w.texts n0 c env2 (to.var (Numbered n3) ∷ [])

    module _ (v : Value) (b : Bindings) (d : Vars) (u : Source) (y : Target) (related : Related cw all en u y) (holds : IsValue w.texts x v d) (described : Describes env1 b d) (agree : Agree n0 c d) where
      abbrev Whole : ℕ → core.Answer
      Whole m = core.eval cw (whole_case x made always z fails) (core.levels cw m) d fs y

      abbrev Others : ℕ → Target → core.Answer
      Others m t = core.pick cw last_clauses (v ∷ []) (core.levels cw m) d fs (λ x. x) (λ x. Wrong) t

      -- the values of the case take their variables
      abbrev Bound : List Value → Target → End Vars Target
      Bound vs t = and_then (core.given (core.bind (Numbered n3 ∷ params_from (n3 + 1) sure) vs d) t) (λ m t. Gives m t)

      whole_is : source.are_wide 1 cs ≡ true → (m : ℕ) → Whole m ≡ core.pick cw (clauses made) (v ∷ []) (core.levels cw m) d fs (λ t. t) (Others m) y
      whole_is wide m =
          let all_clauses = clauses (made ++ last_clause always (z ∷ []) fails ∷ []) in
          ap (λ o. and_then o (λ vs t. if core.all_can_match (length vs) all_clauses then core.pick cw all_clauses vs (core.levels cw m) d fs (λ t. t) (λ t. Wrong) t else Wrong))
          (value_eval cw x v (core.levels cw m) d fs y (subst (λ ts. IsValue ts x v d) (sym world.texts) holds))
          ∙ ap (λ b. if b then core.pick cw all_clauses (v ∷ []) (core.levels cw m) d fs (λ t. t) (λ t. Wrong) y else Wrong) (all_fit 1 made (last_clause always (z ∷ []) fails ∷ []) (picks.fits 1 wide) refl)
          ∙ pick_append cw made (last_clause always (z ∷ []) fails ∷ []) (v ∷ []) (core.levels cw m) d fs (λ t. t) (λ t. Wrong) y

      fails_last : (m : ℕ) (t : Target) → Others m t ≡ Raises Error (case_clause v) t
      fails_last m t =
          clause_taken now [] always none cw later (plain.pats (to.pat_var z ∷ [])) fails to.no_clauses (v ∷ []) (core.levels cw m) d ((z, v) ∷ d) fs (λ t. t) (λ t. Wrong) t true refl refl
          ∙ failing.raises cw later (core.levels cw m) ((z, v) ∷ d) fs t v (value_here z v d)

      pub whole_keeps : Keeps (Exports sure) (Related cw all en) n (picked w (source.levels w n) v b u) Whole
      whole_keeps = when_keeps (Exports sure) (Related cw all en) n (source.are_wide 1 cs) _ Whole (λ wide.
          keeps_same (Exports sure) (Related cw all en) n _ (source.pick w cs (v ∷ []) (source.levels w n) b (λ s. s) (λ s. Raises Error (case_clause v) s) u) Whole (λ m. core.pick cw (clauses made) (v ∷ []) (core.levels cw m) d fs (λ t. t) (Others m) y) refl (λ i m. whole_is wide m i)
          (picks.keeps (v ∷ []) b d described w cw world all includes n calls en fs u y hides related (λ s. s) (λ t. t) (λ s. Raises Error (case_clause v) s) Others (λ s t r. r)
          (λ s t r. keeps_same (Exports sure) (Related cw all en) n _ (Raises Error (case_clause v) s) _ (λ m. Raises Error (case_clause v) t) refl (λ i m. fails_last m t i)
          (const_keeps (Exports sure) (Related cw all en) n (Raises Error (case_clause v) s) (Raises Error (case_clause v) t) (refl, refl, r)))))

      bound_keeps : (r : Value × Bindings) (vs : List Value) (s : Source) (t : Target) → Exports sure r vs → Related cw all en s t → Keeps R (Related cw all en) n (Gives (r.0 ∷ [], kept (clauses_sure cs) r.1 b) s) (λ m. Bound vs t)
      bound_keeps r vs s t exports same =
          let set = bound_from (n3 + 1) sure exports.names ((Numbered n3, r.0) ∷ d) (bound_count sure r.1 exports.names exports.bound) in
          let agrees : Agree n3 d set.0 = agree_trans n3 (n3 + 1) d ((Numbered n3, r.0) ∷ d) set.0 (omega arith) (agree_more n3 n3 d d r.0 (omega arith) (agree_refl n3 d)) set.2 in
          keeps_same R (Related cw all en) n _ (Gives (r.0 ∷ [], kept (clauses_sure cs) r.1 b) s) _ (λ m. Gives set.0 t) refl
          (λ i m. (ap (λ us. Bound us t) exports.is ∙ ap (λ o. and_then (core.given o t) (λ m t. Gives m t)) set.1) i)
          (gives_keeps R (Related cw all en) n (r.0 ∷ [], kept (clauses_sure cs) r.1 b) set.0 s t
          (record {
            values = (set.2.each (Numbered n3) (omega arith) ∙ here n3 r.0 d, tt);
            names = describes_kept n1 (n3 + 1) env1 sure (clauses_sure cs) names k.below exports.names b r.1 d ((Numbered n3, r.0) ∷ d) set.0 described (agree_fewer n1 n3 d set.0 later_step agrees) exports.bound set.1;
            agree = agree_trans n0 n3 c d set.0 (let one = k.drawn in omega arith) agree agrees;
          }) same)

      step_keeps : Keeps R (Related cw all en) n (picked_all w (source.levels w n) (v ∷ []) b u) (λ m. core.eval_steps cw (steps (the_step ∷ [])) (core.levels cw m) d fs y)
      step_keeps =
          keeps_same R (Related cw all en) n _ (picked_all w (source.levels w n) (v ∷ []) b u) _ (λ m. and_then (Whole m) Bound) refl
          (λ i m. then_then (Whole m) (λ vs t. core.given (core.bind (Numbered n3 ∷ params_from (n3 + 1) sure) vs d) t) (λ m t. Gives m t) i)
          (then_keeps (Exports sure) R (Related cw all en) n (picked w (source.levels w n) v b u) Whole (λ r s. Gives (r.0 ∷ [], kept (clauses_sure cs) r.1 b) s) (λ m vs t. Bound vs t)
          (eval_steady cw (whole_case x made always z fails) d fs y).extends
          (λ vs t. const_steady t (Bound vs t) (bound_ahead (core.bind (Numbered n3 ∷ params_from (n3 + 1) sure) vs d) t))
          (λ r s. begins_refl s.outside.events)
          whole_keeps
          (λ r vs s t exports same. bound_keeps r vs s t exports same))

    given : (vs : List Value) (b : Bindings) (d : Vars) (u : Source) (y : Target) → Related cw all en u y → AreValues w.texts (x ∷ []) vs d → Describes env1 b d → Agree n0 c d →
        Keeps R (Related cw all en) n (picked_all w (source.levels w n) vs b u) (λ m. core.eval_steps cw (steps (the_step ∷ [])) (core.levels cw m) d fs y)
    given [] b d u y related are described agree = absurd are
    given (v ∷ []) b d u y related are described agree = step_keeps v b d u y related are.0 described agree
    given (v ∷ o ∷ vs) b d u y related are described agree = absurd are.1

  -- the argument's steps, and then the step of the case
  pub case_keeps : KeepsAll now (tree q (case_of e cs) ∷ []) n0 env0 (added ++ case_step n3 sure x made always z fails ∷ []) n4 (env1 ++ env_from (n3 + 1) sure) (to.var (Numbered n3) ∷ [])
  case_keeps = record {
    drawn = let one = k.drawn in omega arith;
    below = are_below_more (n3 + 1 + length sure) n4 env2 enough (renamed_below n1 (n3 + 1) env1 sure (omega arith) k.below);
    arguments_drawn = (let room : n3 < n4 = omega arith in room, tt);
    made = k.made ++ picks.entries;
    bodies = bodies_both now k.made picks.entries k.bodies picks.bodies;
    keeps = λ b c desc w cw world all inc n calls en fs s t hides same.
        let Q = Related cw all en in
        let S = AfterAll w.texts n0 c env2 (to.var (Numbered n3) ∷ []) in
        keeps_same S Q n _ (and_then (source.eval_all w (trees (e ∷ [])) (source.levels w n) b s) (λ a u. picked_all w (source.levels w n) a.0 a.1 u)) _
        (λ m. and_then (core.eval_steps cw (steps added) (core.levels cw m) c fs t) (λ d u. core.eval_steps cw (steps (the_step ∷ [])) (core.levels cw m) d fs u))
        (source_is w (source.levels w n) b s)
        (λ i m. run_append cw added (the_step ∷ []) (core.levels cw m) c fs t i)
        (then_keeps (AfterAll w.texts n0 c env1 (x ∷ [])) S Q n (source.eval_all w (trees (e ∷ [])) (source.levels w n) b s) (λ m. core.eval_steps cw (steps added) (core.levels cw m) c fs t)
        (λ a u. picked_all w (source.levels w n) a.0 a.1 u) (λ m d u. core.eval_steps cw (steps (the_step ∷ [])) (core.levels cw m) d fs u)
        (steps_steady cw (steps added) c fs t).extends
        (λ d u. steps_steady cw (steps (the_step ∷ [])) d fs u)
        (λ a u. picked_ahead w n a.0 a.1 u)
        (k.keeps b c desc w cw world all (includes_left k.made picks.entries all inc) n calls en fs s t hides same)
        (λ a d u y held r. given w cw world all (includes_right k.made picks.entries all inc) n calls en c fs hides a.0 a.1 d u y r held.values held.names held.agree));
  }
    where
      -- the argument first
      source_is : (w : Module) (ls : source.Levels) (b : Bindings) (s : Source) →
          source.eval_all w (trees (tree q (case_of e cs) ∷ [])) ls b s ≡ and_then (source.eval_all w (trees (e ∷ [])) ls b s) (λ a u. picked_all w ls a.0 a.1 u)
      source_is w ls b s =
          then_then (source.eval w e ls b s) _ _
          ∙ then_same (source.eval w e ls b s) _ _ (λ a u. then_then (picked w ls a.0 a.1 u) _ _)
          ∙ sym (then_then (source.eval w e ls b s) _ _)

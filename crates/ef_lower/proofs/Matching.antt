-- The step of a match, and the match behind it.
use Rattle.std.proofs.Common.{◌≡◌, ◌≤◌, ◌+◌, ◌||◌, ℕ, inl, inr, false, codes, List, [], ◌∷◌, ◌++◌, length, sym, ap, ◌∙◌, subst, arith, append_assoc}
use Rattle.ef_base.specs.declared.fault.Place.{Place}
use Rattle.ef_base.specs.Texts.{Texts}
use Rattle.ef_core.specs.declared.env.Bind.{Bind}
use Rattle.ef_core.specs.declared.literal.CoreVar.{CoreVar}
use Rattle.ef_core.specs.declared.literal.CoreVar.TheVariants.{Numbered}
use Rattle.ef_core.specs.Env.{bind}
use Rattle.ef_core.specs.Everywhere.{Each}
use Rattle.ef_core.specs.Fresh.{most_variables}
use Rattle.ef_core.specs.Lowered.{IsLowered, IsReadableBind}
use Rattle.ef_core.specs.Plain.{ClauseTree, StepTree, clauses, steps}
use Rattle.ef_core.specs.Scope.{IsAmong, pats_vars, steps_vars}
use Rattle.ef_core.specs.Tree as c
use Rattle.ef_core.specs.Tree.{CoreTree}
use Rattle.ef_lowpat.proofs.Depths.{some_depth}
use Rattle.ef_forms.specs.declared.tables.FunctionName.{FunctionName}
use Rattle.ef_forms.specs.Depth.{all_depth, depth as source_depth}
use Rattle.ef_forms.specs.Plain.{trees}
use Rattle.ef_forms.specs.Sure.{sure}
use Rattle.ef_forms.specs.Tree as t
use Rattle.ef_forms.specs.Tree.{Tree, tree, end, more}
use Rattle.ef_forms.specs.Ways.{names}
use Rattle.ef_forms.specs.Weight.{weight}
use Rattle.ef_meaning.specs.Cases.{FailsValue, last_clause, names_of, together}
use Rattle.ef_meaning.specs.Exception.{badmatch}
use Rattle.ef_meaning.specs.Lowers.{KeepsExpr, env_from, params_from}
use Rattle.ef_meaning.proofs.Fails.{badmatch_step_fails}
use Rattle.ef_meaning.proofs.Functions.{params_differ}
use Rattle.ef_meaning.proofs.Matches.{held_keeps, match_keeps}
use Rattle.ef_meaning.proofs.Renamed.{new_held}
use Rattle.ef_lower.specs.Exports.{held_variables}
use Rattle.ef_lower.specs.Lowers.{Adds, IsArgument, IsLoweredStep, Lowers, LowersAll, ValueForm}
use Rattle.ef_lower.specs.Matches.{IsLastClause, IsMatchStep, IsPatternsOf, Matches}
use Rattle.ef_lower.specs.Ready.{bound_names}
use Rattle.ef_lower.specs.Scope.{AreInScope, HasVariables}
use Rattle.ef_lower.proofs.Behind.{adds_as, any_lowers, held_lowers, new_lowers}
use Rattle.ef_lower.proofs.Clauses.{IsLoweredClause, case_in_scope, case_lowered, case_shallow}
use Rattle.ef_lower.proofs.Few.{few_binds}
use Rattle.ef_lower.proofs.Forms.{each_both, steps_wider}
use Rattle.ef_lower.proofs.LastClause.{last_lowered}
use Rattle.ef_lower.proofs.Scopes.{among_first, among_more, has_both, has_more, steps_both, vars_both}
use Rattle.ef_lower.proofs.Several.{together_depth, together_in_scope, together_lowered, variables_arguments, variables_in_scope}
use Rattle.ef_lower.proofs.Sizes.{bound_both, or_assoc, or_false, some_weight}
use Rattle.ef_lower.proofs.Variables.{among_each, env_readable, named_same, names_count, names_held, params_among, params_readable, tests_known}

-- ---- the step

module _ (texts : Texts) (defined : List FunctionName) (p e : Tree) (x : CoreVar) (n : ℕ) (env1 : List Bind) (m : ℕ) (env2 : List Bind) (s : StepTree) (step : IsMatchStep texts p x n env1 m env2 s) where
  abbrev found : IsPatternsOf texts (more p end) n env1 step.made step.tests step.matched step.binds
  found = step.is_pattern

  abbrev last : IsLastClause texts (codes "badmatch") 1 step.guarded step.first step.last
  last = step.is_last

  abbrev clause : ClauseTree
  clause = record { pats = step.made; guard = step.guard; body = together (held_variables step.binds) }

  -- the case, with the last clause written out
  abbrev by_case : CoreTree
  by_case = c.case_of (c.var x) (clauses (clause ∷ last_clause last.always (Numbered last.z ∷ []) last.fails ∷ []))

  abbrev made_step : StepTree
  made_step = record { vars = params_from step.first (names_of step.binds); value = by_case }

  step_is : s ≡ made_step
  step_is = step.is ∙ ap (λ l. let made : StepTree = record { vars = params_from step.first (names_of step.binds); value = c.case_of (c.var x) (clauses (clause ∷ l ∷ [])) } in made) last.is

  few : length step.binds ≤ weight p
  few = let all = few_binds env1 step.binds (more p end) found.names_differ found.names_new found.names_all in omega arith

  counted : length (names_of step.binds) ≡ length step.binds
  counted = names_count step.binds

  fits : step.first + length (names_of step.binds) ≤ most_variables
  fits = let number = counted in let drawn = step.drawn in let in_range = step.in_range in omega arith

  values : Each (IsArgument texts 1) (held_variables step.binds)
  values = variables_arguments texts 1 step.binds (omega arith) found.readable_binds

  clause_lowered : IsLoweredClause texts defined env1 (source_depth p) clause
  clause_lowered = record {
    distinct = found.distinct;
    pats = found.lowered;
    guard = step.is_guard.lowered;
    body = together_lowered texts 1 (held_variables step.binds) values;
    in_scope = λ vs fs variables functions. (
      found.sizes vs fs,
      step.is_guard.in_scope (pats_vars step.made ++ vs) fs (tests_known env1 (pats_vars step.made) vs step.tests variables found.lefts_in_pattern found.rights_known),
      together_in_scope (pats_vars step.made ++ vs) fs (held_variables step.binds) (variables_in_scope (pats_vars step.made ++ vs) fs step.binds (among_each (λ (b : Bind). b.var) (pats_vars step.made) vs step.binds found.binds_in_pattern)),
    );
    shallow =
        let some = some_depth p in let made = found.shallow in let guard = step.is_guard.shallow in
        let deep = together_depth texts 1 (held_variables step.binds) values in omega arith;
  }

  end_lowered : IsLoweredClause texts defined env1 (source_depth p) (last_clause last.always (Numbered last.z ∷ []) last.fails)
  end_lowered =
      subst (IsLoweredClause texts defined env1 (source_depth p)) last.is
      (last_lowered texts defined env1 (source_depth p) (some_depth p) (codes "badmatch") 1 step.guarded step.first step.last last (let is = fits in omega arith))

  pub step_lowered : (levels : ℕ) → source_depth p + 1 ≤ levels → IsLowered texts (c.var x) → IsLoweredStep texts levels made_step
  step_lowered levels deeper is = record {
    variables = params_readable texts step.first (names_of step.binds) fits;
    differ = params_differ step.first (names_of step.binds);
    value = case_lowered texts defined env1 (source_depth p) (c.var x) (clause ∷ []) (last_clause last.always (Numbered last.z ∷ []) last.fails) (clause_lowered, tt) end_lowered is;
    shallow =
        let some = some_depth p in
        let deep = case_shallow texts defined env1 (source_depth p) (c.var x) (clause ∷ []) (last_clause last.always (Numbered last.z ∷ []) last.fails) (clause_lowered, tt) end_lowered some (omega arith) in omega arith;
  }

  step_in_scope : (env0 : List Bind) (a : List StepTree) → AreInScope texts defined env0 a env1 (c.var x ∷ []) → AreInScope texts defined env0 (a ++ made_step ∷ []) (env1 ++ env_from step.first (names_of step.binds)) (c.var x ∷ [])
  step_in_scope env0 a before vs fs variables functions =
      let all = before vs fs variables functions in
      let us = params_from step.first (names_of step.binds) in
      let here = steps_vars (steps a) ++ vs in (
        steps_both a (made_step ∷ []) vs fs all.0
            (case_in_scope texts defined env1 (source_depth p) (c.var x) (clause ∷ []) (last_clause last.always (Numbered last.z ∷ []) last.fails) (clause_lowered, tt) end_lowered here fs all.1 functions all.2.0, tt),
        subst (HasVariables (env1 ++ env_from step.first (names_of step.binds))) (sym (vars_both a (made_step ∷ []) vs))
            (has_both env1 (env_from step.first (names_of step.binds)) (us ++ here) (has_more env1 us here all.1) (params_among step.first (names_of step.binds) (us ++ here) (λ v is. among_first us here v is))),
        (subst (λ xs. IsAmong xs x) (sym (vars_both a (made_step ∷ []) vs)) (among_more us here x all.2.0), tt),
      )

  -- ---- the match

  match_named : (env0 : List Bind) → ((y : ℕ) → bound_names env1 y ≡ (bound_names env0 y || (sure e y || false))) → (y : ℕ) → bound_names (env1 ++ env_from step.first (names_of step.binds)) y ≡ (bound_names env0 y || (sure e y || names p y || false))
  match_named env0 before y =
      bound_both env1 (env_from step.first (names_of step.binds)) y
      ∙ ap (λ b. bound_names env1 y || b) (named_same step.first step.binds y)
      ∙ sym (bound_both env1 step.binds y)
      ∙ found.names_all y
      ∙ ap (λ b. bound_names env1 y || b) (or_false (names p y))
      ∙ ap (λ b. b || names p y) (before y)
      ∙ ap (λ b. bound_names env0 y || b || names p y) (or_false (sure e y))
      ∙ or_assoc (bound_names env0 y) (sure e y) (names p y)
      ∙ ap (λ b. bound_names env0 y || b) (sym (or_false (sure e y || names p y)))

  module _ (q : Place) (n0 : ℕ) (env0 : List Bind) (a : List StepTree) (one : LowersAll texts defined (e ∷ []) n0 env0 a n env1 (c.var x ∷ [])) where
    abbrev match_tree : Tree
    match_tree = tree q (t.matching p e)

    abbrev env_after : List Bind
    env_after = env1 ++ env_from step.first (names_of step.binds)

    abbrev number_after : ℕ
    number_after = step.first + length (names_of step.binds)

    match_form : ValueForm texts defined (match_tree ∷ []) n0 env0 (a ++ made_step ∷ []) number_after env_after (c.var x)
    match_form =
        let argument = one.forms.arguments.0 in
        let levels = all_depth (trees (match_tree ∷ [])) in
        record {
          names = record {
            more = one.forms.names.more ++ env_from step.first (names_of step.binds);
            grown = ap (λ l. l ++ env_from step.first (names_of step.binds)) one.forms.names.grown ∙ append_assoc env0 one.forms.names.more (env_from step.first (names_of step.binds));
            named = match_named env0 one.forms.names.named;
            readable = each_both (IsReadableBind texts) env1 (env_from step.first (names_of step.binds)) one.forms.names.readable (env_readable texts step.first (names_of step.binds) fits);
          };
          drawn = let before = one.forms.drawn in let pattern = found.drawn.0 in let guard = step.guard_drawn.0 in let lasts = last.drawn in let next = last.next in omega arith;
          enough =
              let before = one.forms.enough in let pattern = found.drawn.1 in let guard = step.guard_drawn.1 in let lasts = last.enough in
              let number = counted in let light = few in let some = some_weight p in omega arith;
          steps = each_both (IsLoweredStep texts levels) a (made_step ∷ []) (steps_wider texts (all_depth (trees (e ∷ []))) levels a (omega arith) one.forms.steps) (step_lowered levels (omega arith) argument.lowered, tt);
          lowered = argument.lowered;
          no_run = tt;
          shallow = let some = some_depth p in omega arith;
          argument = λ simple. omega arith;
          in_scope = step_in_scope env0 a one.forms.in_scope;
        }

    match_kept : KeepsExpr texts match_tree n0 env0 (a ++ made_step ∷ []) number_after env_after (c.var x)
    match_kept =
        held_keeps texts match_tree n0 env0 (a ++ made_step ∷ []) number_after env_after (c.var x)
        (match_keeps texts q p e n0 env0 a n env1 (c.var x) step.made step.tests step.matched step.binds step.guard last.always (Numbered last.z) last.fails step.first number_after one.keeps found.matched
        (names_held env1 step.binds step.binds (new_held [] step.binds found.names_differ) found.names_new)
        step.is_guard.gives last.is_guard.gives
        (subst (FailsValue texts (Numbered last.z) badmatch) (sym last.is_error.is) (badmatch_step_fails texts last.is_error.match_fail last.is_error.why (Numbered last.z) last.is_error.match_fail_text last.is_error.why_text (Numbered (last.z + 1))))
        (let guard = step.guard_drawn.0 in let lasts = last.drawn in let next = last.next in omega arith) (omega arith))

    pub by_case_lowers : Lowers texts defined match_tree n0 env0 (a ++ s ∷ []) m env2 (c.var x)
    by_case_lowers =
        let number : m ≡ number_after = step.drawn ∙ ap (λ k. step.first + k) (sym counted) in
        subst (λ z. Lowers texts defined match_tree n0 env0 (a ++ z ∷ []) m env2 (c.var x)) (sym step_is)
        (subst (λ k. Lowers texts defined match_tree n0 env0 (a ++ made_step ∷ []) k env2 (c.var x)) (sym number)
        (subst (λ l. Lowers texts defined match_tree n0 env0 (a ++ made_step ∷ []) number_after l (c.var x)) (sym step.bound)
        (record { form = match_form; stays = tt; keeps = match_kept })))

-- the match behind its value
pub match_lowers : (texts : Texts) (defined : List FunctionName) (q : Place) (p e : Tree) (n0 : ℕ) (env0 : List Bind) (n : ℕ) (env1 : List Bind) (m : ℕ) (env2 : List Bind) (first old new : List StepTree) (v u : CoreTree) →
    Adds first old (λ a. Lowers texts defined e n0 env0 a n env1 v) → Matches texts p v n env1 old m env2 new u → Adds first new (λ a. Lowers texts defined (tree q (t.matching p e)) n0 env0 a m env2 u)
match_lowers texts defined q p e n0 env0 n env1 m env2 first old new v u one (inl is) =
    subst (λ z. Adds first z (λ a. Lowers texts defined (tree q (t.matching p e)) n0 env0 a m env2 u)) (sym is.steps)
    (adds_as (λ a k.
    subst (λ z. Lowers texts defined (tree q (t.matching p e)) n0 env0 a m env2 z) (sym is.same)
    (subst (λ z. Lowers texts defined (tree q (t.matching p e)) n0 env0 a m z v) (sym is.bound)
    (subst (λ z. Lowers texts defined (tree q (t.matching p e)) n0 env0 a z env1 v) (sym is.drawn)
    (subst (λ z. Lowers texts defined (tree q (t.matching z e)) n0 env0 a n env1 v) (sym is.is) (any_lowers texts defined q is.place k))))) one)
match_lowers texts defined q p e n0 env0 n env1 m env2 first old new v u one (inr (inl is)) =
    adds_as (λ a k.
    subst (λ z. Lowers texts defined (tree q (t.matching p e)) n0 env0 a m env2 z) (sym is.same)
    (subst (λ z. Lowers texts defined (tree q (t.matching p e)) n0 env0 a m z (c.var is.y)) (sym is.bound)
    (subst (λ z. Lowers texts defined (tree q (t.matching z e)) n0 env0 a m (env1 ++ bind is.name is.y ∷ []) (c.var is.y)) (sym is.is) (new_lowers texts defined q is.place is.name is.free k)))) (held_lowers texts defined one is.stands)
match_lowers texts defined q p e n0 env0 n env1 m env2 first old new v u one (inr (inr is)) =
    let held = held_lowers texts defined one is.stands in
    record {
      added = held.added ++ is.step ∷ [];
      steps = is.steps ∙ ap (λ l. l ++ is.step ∷ []) held.steps ∙ append_assoc first held.added (is.step ∷ []);
      is = subst (Lowers texts defined (tree q (t.matching p e)) n0 env0 (held.added ++ is.step ∷ []) m env2) (sym is.same)
          (by_case_lowers texts defined p e is.x is.mid env1 m env2 is.step is.is_match q n0 env0 held.added held.is);
    }

-- The case behind its argument: a step that holds it, or itself.
use Rattle.std.proofs.Common.{◌≡◌, ◌<◌, ◌≤◌, ◌+◌, ◌||◌, ℕ, inl, inr, false, codes, List, [], ◌∷◌, ◌++◌, length, max, refl, sym, ap, ◌∙◌, subst, arith, append_assoc}
use Rattle.ef_base.specs.declared.name.Name.{Name}
use Rattle.ef_base.specs.declared.fault.Place.{Place}
use Rattle.ef_base.specs.Texts.{Texts}
use Rattle.ef_core.specs.declared.env.Bind.{Bind}
use Rattle.ef_core.specs.declared.literal.CoreVar.{CoreVar}
use Rattle.ef_core.specs.declared.literal.CoreVar.TheVariants.{Numbered}
use Rattle.ef_core.specs.declared.literal.FName.{FName}
use Rattle.ef_core.specs.Depth.{depth}
use Rattle.ef_core.specs.Everywhere.{Each}
use Rattle.ef_core.specs.Fresh.{most_variables}
use Rattle.ef_core.specs.Lowered.{IsReadableBind}
use Rattle.ef_core.specs.Plain as core
use Rattle.ef_core.specs.Plain.{StepTree, clauses as core_clauses, steps}
use Rattle.ef_core.specs.Scope.{InScope, IsAmong, steps_vars}
use Rattle.ef_core.specs.Tree as c
use Rattle.ef_core.specs.Tree.{CoreTree}
use Rattle.ef_forms.specs.declared.tables.FunctionName.{FunctionName}
use Rattle.ef_forms.specs.Built.{AreSome}
use Rattle.ef_forms.specs.Depth.{all_depth, clauses_depth, depth as source_depth}
use Rattle.ef_forms.specs.Plain.{ClauseTree, clauses, trees}
use Rattle.ef_forms.specs.Sure.{clauses_sure, sure}
use Rattle.ef_forms.specs.Tree as t
use Rattle.ef_forms.specs.Tree.{Tree, tree}
use Rattle.ef_forms.specs.Ways.{union}
use Rattle.ef_lowpat.proofs.Depths.{some_depth}
use Rattle.ef_meaning.specs.Cases.{FailsValue, last_clause, names_of, whole_case}
use Rattle.ef_meaning.specs.Exception.{case_clause}
use Rattle.ef_meaning.specs.Lowers.{KeepsExpr, env_from, params_from}
use Rattle.ef_meaning.specs.Named.{name_set}
use Rattle.ef_meaning.specs.Patterns.{KeepsPicks}
use Rattle.ef_meaning.proofs.CaseKeeps.{case_keeps}
use Rattle.ef_meaning.proofs.CaseStands.{case_stands}
use Rattle.ef_meaning.proofs.Fails.{case_clause_step_fails}
use Rattle.ef_meaning.proofs.Functions.{params_differ}
use Rattle.ef_meaning.proofs.Matches.{held_keeps}
use Rattle.ef_lower.specs.Arms.{AreArms, ArmTree, FinishesAll, IsCaseOf, MakesCase, PutsNamed, shared}
use Rattle.ef_lower.specs.LastCalls.{ClausesStayLast, StaysLast}
use Rattle.ef_lower.specs.Lowers.{Adds, IsLowered, IsLoweredStep, IsShallow, Lowers, LowersAll, ValueForm}
use Rattle.ef_lower.specs.Matches.{IsLastClause}
use Rattle.ef_lower.specs.Ready.{bound_names}
use Rattle.ef_lower.specs.Scope.{AreInScope, HasFunctions, HasVariables}
use Rattle.ef_lower.proofs.LastCalls.{clauses_stay, none_new}
use Rattle.ef_lower.proofs.LoweredArms.{arms_keep, arms_lowered, arms_new, few_names}
use Rattle.ef_lower.proofs.Clauses.{IsLoweredClause, case_in_scope, case_lowered, case_shallow}
use Rattle.ef_lower.proofs.Forms.{each_both, numbered_readable, steps_wider, variable_lowered}
use Rattle.ef_lower.proofs.LastClause.{last_lowered}
use Rattle.ef_lower.proofs.Names.{named_set}
use Rattle.ef_lower.proofs.Scopes.{among_first, has_both, has_more, steps_both, vars_both}
use Rattle.ef_lower.proofs.Shared.{shared_named, shared_new}
use Rattle.ef_lower.proofs.Sizes.{bound_both, or_assoc, or_false}
use Rattle.ef_lower.proofs.Source.{same_set}
use Rattle.ef_lower.proofs.Variables.{env_readable, named_same, names_count, params_among, params_readable}

module _ (texts : Texts) (defined : List FunctionName) (q : Place) (e : Tree) (cs : List ClauseTree) (x : CoreTree) (arms : List ArmTree) (n first : ℕ) (env1 : List Bind) (whole : CoreTree)
    (are : AreArms texts defined n env1 cs arms) (some : AreSome (clauses cs)) (makes : IsCaseOf texts x arms n first whole)
    (n0 : ℕ) (env0 : List Bind) (a : List StepTree) (one : LowersAll texts defined (e ∷ []) n0 env0 a n env1 (x ∷ [])) where
  abbrev names : List Name
  names = names_of (shared arms)

  abbrev case_tree : Tree
  case_tree = tree q (t.case_of e (clauses cs))

  -- ---- the case, with the last clause written out

  abbrev last : IsLastClause texts (codes "case_clause") 1 n first makes.last
  last = makes.is_last

  abbrev end_clause : core.ClauseTree
  end_clause = last_clause last.always (Numbered last.z ∷ []) last.fails

  abbrev the_case : CoreTree
  the_case = whole_case x makes.made last.always (Numbered last.z) last.fails

  case_is : whole ≡ the_case
  case_is = makes.is ∙ ap (λ l. c.case_of x (core_clauses (makes.made ++ l ∷ []))) last.is

  -- the levels of the argument and the clauses
  abbrev inner : ℕ
  inner = max (source_depth e) (clauses_depth (clauses cs))

  abbrev levels : ℕ
  levels = all_depth (trees (case_tree ∷ []))

  some_inner : 1 ≤ inner
  some_inner = let deep = some_depth e in omega arith

  are_lowered : Each (IsLoweredClause texts defined env1 inner) makes.made
  are_lowered = arms_lowered texts defined n env1 (shared arms) cs arms makes.made are makes.finished inner (omega arith) some_inner

  end_lowered : IsLoweredClause texts defined env1 inner end_clause
  end_lowered = subst (IsLoweredClause texts defined env1 inner) last.is (last_lowered texts defined env1 inner some_inner (codes "case_clause") 1 n first makes.last last makes.in_range)

  whole_lowered : IsLowered texts the_case
  whole_lowered = case_lowered texts defined env1 inner x makes.made end_clause are_lowered end_lowered one.forms.arguments.0.lowered

  whole_shallow : IsShallow levels the_case
  whole_shallow =
      let deep : depth x ≤ all_depth (trees (e ∷ [])) = one.forms.arguments.0.shallow in
      let all = case_shallow texts defined env1 inner x makes.made end_clause are_lowered end_lowered some_inner (omega arith) in
      omega arith

  whole_in_scope : (vs : List CoreVar) (fs : List FName) → HasVariables env0 vs → HasFunctions texts defined fs → InScope (steps_vars (steps a) ++ vs) fs the_case
  whole_in_scope vs fs variables functions =
      let all = one.forms.in_scope vs fs variables functions in
      case_in_scope texts defined env1 inner x makes.made end_clause are_lowered end_lowered (steps_vars (steps a) ++ vs) fs all.1 functions all.2.0

  argument_steps : Each (IsLoweredStep texts levels) a
  argument_steps = steps_wider texts (all_depth (trees (e ∷ []))) levels a (omega arith) one.forms.steps

  argument_named : (y : ℕ) → bound_names env1 y ≡ (bound_names env0 y || sure e y)
  argument_named y = one.forms.names.named y ∙ ap (λ b. bound_names env0 y || b) (or_false (sure e y))

  both_named : (y : ℕ) → (bound_names env1 y || bound_names (shared arms) y) ≡ (bound_names env0 y || (sure e y || clauses_sure (clauses cs) y || false))
  both_named y =
      shared_named texts defined n env1 cs arms are some y
      ∙ ap (λ b. b || clauses_sure (clauses cs) y) (one.forms.names.named y)
      ∙ ap (λ b. bound_names env0 y || b || clauses_sure (clauses cs) y) (or_false (sure e y))
      ∙ or_assoc (bound_names env0 y) (sure e y) (clauses_sure (clauses cs) y)
      ∙ ap (λ b. bound_names env0 y || b) (sym (or_false (sure e y || clauses_sure (clauses cs) y)))

  -- ---- what its meaning rests on

  picks_kept : KeepsPicks texts (clauses cs) env1 names makes.made
  picks_kept = arms_keep texts defined n env1 (shared arms) cs arms makes.made are makes.finished

  end_fails : FailsValue texts (Numbered last.z) case_clause last.fails
  end_fails =
      let error = last.is_error in
      subst (FailsValue texts (Numbered last.z) case_clause) (sym error.is) (case_clause_step_fails texts error.match_fail error.why (Numbered last.z) error.match_fail_text error.why_text (Numbered (last.z + 1)))

  names_sure : (y : ℕ) → (bound_names env1 y || name_set names y) ≡ (bound_names env1 y || clauses_sure (clauses cs) y)
  names_sure y = ap (λ b. bound_names env1 y || b) (named_set (shared arms) y) ∙ shared_named texts defined n env1 cs arms are some y

  drawn_later : n ≤ first
  drawn_later = let lasts = last.drawn in let next = last.next in omega arith

  -- ---- a step that holds it

  abbrev number_after : ℕ
  number_after = first + 1 + length names

  abbrev env_after : List Bind
  env_after = env1 ++ env_from (first + 1) names

  abbrev put : CoreTree → StepTree
  put value = record { vars = Numbered first ∷ params_from (first + 1) names; value = value }

  abbrev the_step : StepTree
  the_step = put the_case

  module _ (fits : number_after ≤ most_variables) (filled : 1 ≤ length (shared arms)) where
    first_fits : first < most_variables
    first_fits = omega arith

    step_lowered : IsLoweredStep texts levels the_step
    step_lowered = record {
      variables = ((tt, (numbered_readable texts first first_fits, tt)), params_readable texts (first + 1) names fits);
      differ = params_differ first (record { index = 0 } ∷ names);
      value = whole_lowered;
      shallow = whole_shallow;
    }

    step_in_scope : AreInScope texts defined env0 (a ++ the_step ∷ []) env_after (c.var (Numbered first) ∷ [])
    step_in_scope vs fs variables functions =
        let all = one.forms.in_scope vs fs variables functions in
        let us = Numbered first ∷ params_from (first + 1) names in
        let here = steps_vars (steps a) ++ vs in (
          steps_both a (the_step ∷ []) vs fs all.0 (whole_in_scope vs fs variables functions, tt),
          subst (HasVariables env_after) (sym (vars_both a (the_step ∷ []) vs))
              (has_both env1 (env_from (first + 1) names) (us ++ here) (has_more env1 us here all.1) (params_among (first + 1) names (us ++ here) (λ v is. inr (among_first (params_from (first + 1) names) here v is)))),
          (subst (λ xs. IsAmong xs (Numbered first)) (sym (vars_both a (the_step ∷ []) vs)) (inl refl), tt),
        )

    held_form : ValueForm texts defined (case_tree ∷ []) n0 env0 (a ++ the_step ∷ []) number_after env_after (c.var (Numbered first))
    held_form = record {
      names = record {
        more = one.forms.names.more ++ env_from (first + 1) names;
        grown = ap (λ l. l ++ env_from (first + 1) names) one.forms.names.grown ∙ append_assoc env0 one.forms.names.more (env_from (first + 1) names);
        named = λ y. bound_both env1 (env_from (first + 1) names) y ∙ ap (λ b. bound_names env1 y || b) (named_same (first + 1) (shared arms) y) ∙ both_named y;
        readable = each_both (IsReadableBind texts) env1 (env_from (first + 1) names) one.forms.names.readable (env_readable texts (first + 1) names fits);
      };
      drawn = let before = one.forms.drawn in let later = drawn_later in omega arith;
      enough =
          let before = one.forms.enough in let lasts = last.enough in
          let number = names_count (shared arms) in let light = few_names texts defined n env1 cs arms are some in omega arith;
      steps = each_both (IsLoweredStep texts levels) a (the_step ∷ []) argument_steps (step_lowered, tt);
      lowered = variable_lowered texts (Numbered first) (numbered_readable texts first first_fits);
      no_run = tt;
      shallow = let some = some_depth e in omega arith;
      argument = λ simple. omega arith;
      in_scope = step_in_scope;
    }

    -- it leaves new names bound
    held_stays : StaysLast (bound_names env0) case_tree (c.var (Numbered first))
    held_stays within = absurd (none_new env1 (shared arms) (shared_new env1 arms (arms_new texts defined n env1 cs arms are)) (clauses_sure (clauses cs)) (shared_named texts defined n env1 cs arms are some) (λ y here. argument_named y ∙ within y here) filled)

    held_kept : KeepsExpr texts case_tree n0 env0 (a ++ the_step ∷ []) number_after env_after (c.var (Numbered first))
    held_kept =
        held_keeps texts case_tree n0 env0 (a ++ the_step ∷ []) number_after env_after (c.var (Numbered first))
        (case_keeps texts q e (clauses cs) n0 env0 a n env1 x names makes.made last.always (Numbered last.z) last.fails first number_after one.keeps picks_kept last.is_guard.gives end_fails names_sure drawn_later (omega arith))

    held_lowers : Lowers texts defined case_tree n0 env0 (a ++ the_step ∷ []) number_after env_after (c.var (Numbered first))
    held_lowers = record { form = held_form; stays = held_stays; keeps = held_kept }

  pub put_lowers : 1 ≤ length (shared arms) → {old new : List StepTree} {m : ℕ} {env2 : List Bind} {u : CoreTree} → PutsNamed (shared arms) whole first env1 old m env2 new u → Lowers texts defined case_tree n0 env0 (a ++ put whole ∷ []) m env2 u
  put_lowers filled {old} {new} {m} {env2} {u} puts =
      let number : m ≡ number_after = puts.drawn ∙ ap (λ k. first + 1 + k) (sym (names_count (shared arms))) in
      let in_range = puts.in_range in
      subst (Lowers texts defined case_tree n0 env0 (a ++ put whole ∷ []) m env2) (sym puts.same)
      (subst (λ l. Lowers texts defined case_tree n0 env0 (a ++ put whole ∷ []) m l (c.var (Numbered first))) (sym puts.bound)
      (subst (λ k. Lowers texts defined case_tree n0 env0 (a ++ put whole ∷ []) k env_after (c.var (Numbered first))) (sym number)
      (subst (λ v. Lowers texts defined case_tree n0 env0 (a ++ put v ∷ []) number_after env_after (c.var (Numbered first))) (sym case_is) (held_lowers (omega arith) filled))))

  -- ---- the case itself

  module _ (none : shared arms ≡ []) where
    standing_named : (y : ℕ) → bound_names env1 y ≡ (bound_names env0 y || (sure e y || clauses_sure (clauses cs) y || false))
    standing_named y = sym (or_false (bound_names env1 y)) ∙ ap (λ l. bound_names env1 y || bound_names l y) (sym none) ∙ both_named y

    standing_form : ValueForm texts defined (case_tree ∷ []) n0 env0 a first env1 the_case
    standing_form = record {
      names = record { more = one.forms.names.more; grown = one.forms.names.grown; named = standing_named; readable = one.forms.names.readable };
      drawn = let before = one.forms.drawn in let later = drawn_later in omega arith;
      enough = let before = one.forms.enough in let lasts = last.enough in omega arith;
      steps = argument_steps;
      lowered = whole_lowered;
      no_run = tt;
      shallow = whole_shallow;
      argument = λ simple. absurd simple;
      in_scope = λ vs fs variables functions. let all = one.forms.in_scope vs fs variables functions in (all.0, all.1, (whole_in_scope vs fs variables functions, tt));
    }

    standing_stays : StaysLast (bound_names env0) case_tree the_case
    standing_stays within = (
      x,
      core_clauses (makes.made ++ end_clause ∷ []),
      refl,
      subst (λ s. ClausesStayLast s (clauses cs) (core_clauses (makes.made ++ end_clause ∷ []))) (same_set (bound_names env1) (union (bound_names env0) (sure e)) argument_named)
          (clauses_stay texts defined n env1 cs arms makes.made (end_clause ∷ []) are (subst (λ l. FinishesAll l arms makes.made) none makes.finished)),
    )

    standing_kept : KeepsExpr texts case_tree n0 env0 a first env1 the_case
    standing_kept =
        case_stands texts q e (clauses cs) n0 env0 a n env1 x makes.made last.always (Numbered last.z) last.fails first one.keeps
        (subst (λ l. KeepsPicks texts (clauses cs) env1 (names_of l) makes.made) none picks_kept) last.is_guard.gives end_fails
        (λ y. subst (λ l. (bound_names env1 y || name_set (names_of l) y) ≡ (bound_names env1 y || clauses_sure (clauses cs) y)) none (names_sure y)) drawn_later

    pub standing_lowers : Lowers texts defined case_tree n0 env0 a first env1 whole
    standing_lowers = subst (Lowers texts defined case_tree n0 env0 a first env1) (sym case_is) (record { form = standing_form; stays = standing_stays; keeps = standing_kept })

-- ---- the case behind its argument

module _ (texts : Texts) (defined : List FunctionName) (q : Place) (e : Tree) (cs : List ClauseTree) (x : CoreTree) (arms : List ArmTree) (n : ℕ) (env1 : List Bind) (old : List StepTree) (m : ℕ) (env2 : List Bind) (new : List StepTree) (u : CoreTree)
    (are : AreArms texts defined n env1 cs arms) (some : AreSome (clauses cs)) where
  pub case_lowers : {n0 : ℕ} {env0 : List Bind} {first : List StepTree} → MakesCase texts x arms n env1 old m env2 new u → Adds first old (λ a. LowersAll texts defined (e ∷ []) n0 env0 a n env1 (x ∷ [])) →
      Adds first new (λ a. Lowers texts defined (tree q (t.case_of e (clauses cs))) n0 env0 a m env2 u)
  case_lowers {n0} {env0} {first} (inl holds) one =
      let step : StepTree = record { vars = Numbered holds.first ∷ params_from (holds.first + 1) (names_of (shared arms)); value = holds.whole } in
      record {
        added = one.added ++ step ∷ [];
        steps = holds.puts.steps ∙ ap (λ l. l ++ step ∷ []) one.steps ∙ append_assoc first one.added (step ∷ []);
        is = put_lowers texts defined q e cs x arms n holds.first env1 holds.whole are some holds.is_case n0 env0 one.added one.is holds.some holds.puts;
      }
  case_lowers {n0} {env0} {first} (inr stands) one = record {
    added = one.added;
    steps = stands.steps ∙ one.steps;
    is = subst (λ l. Lowers texts defined (tree q (t.case_of e (clauses cs))) n0 env0 one.added m l u) (sym stands.bound)
        (standing_lowers texts defined q e cs x arms n m env1 u are some stands.is_case n0 env0 one.added one.is stands.none);
  }

-- Arms with their names, as clauses that a text can say and that keep the choice.
use Rattle.std.proofs.Common.{◌≡◌, ◌<◌, ◌≤◌, ◌+◌, ◌*◌, ℕ, List, [], ◌∷◌, ◌++◌, length, map, None, refl, sym, ◌∙◌, subst, arith}
use Rattle.ef_base.specs.Texts.{Texts}
use Rattle.ef_core.specs.declared.env.Bind.{Bind}
use Rattle.ef_core.specs.Env.{NamesDiffer, held}
use Rattle.ef_core.specs.Everywhere.{Each}
use Rattle.ef_core.specs.Fresh.{most_variables}
use Rattle.ef_core.specs.Plain as core
use Rattle.ef_core.specs.Scope.{pats_vars}
use Rattle.ef_forms.specs.declared.tables.FunctionName.{FunctionName}
use Rattle.ef_forms.specs.Built.{AreSome}
use Rattle.ef_forms.specs.Depth.{all_depth, clauses_depth}
use Rattle.ef_forms.specs.Plain.{ClauseTree, clauses, guards, trees}
use Rattle.ef_forms.specs.Tree as t
use Rattle.ef_forms.specs.Weight.{clauses_weight}
use Rattle.ef_lowpat.specs.Budgets.{variables_per_unit}
use Rattle.ef_meaning.specs.Cases.{names_of}
use Rattle.ef_meaning.specs.Patterns.{IsGuard, KeepsPatterns, KeepsPicks}
use Rattle.ef_meaning.proofs.Picks.{picks_clause, picks_none}
use Rattle.ef_lower.specs.Arms.{AreArms, ArmTree, ArmsCanEnd, FinishesAll, FinishesArm, IsArm, shared}
use Rattle.ef_lower.proofs.Bodies.{IsLoweredBody, named_either}
use Rattle.ef_lower.proofs.Clauses.{IsLoweredClause}
use Rattle.ef_lower.proofs.Few.{few_shared}
use Rattle.ef_lower.proofs.Names.{binds_behind, differ_back, held_further}
use Rattle.ef_lower.proofs.Scopes.{has_both, has_more}
use Rattle.ef_lower.proofs.Shared.{shared_differ, shared_named, shared_new}
use Rattle.ef_lower.proofs.Sizes.{bound_both}
use Rattle.ef_lower.proofs.Variables.{among_each, tests_known}

-- ---- lists of arms

pub each_map : {A B : Type 0} (f : A → B) (P : B → Type 0) (xs : List A) → Each P (map f xs) → Each (λ x. P (f x)) xs
each_map f P [] all = tt
each_map f P (x ∷ xs) all = (all.0, each_map f P xs all.1)

pub finishes_more : (binds : List Bind) (arms : List ArmTree) (ms : List core.ClauseTree) (a : ArmTree) (m : core.ClauseTree) → FinishesAll binds arms ms → FinishesArm binds a m → FinishesAll binds (arms ++ a ∷ []) (ms ++ m ∷ [])
finishes_more binds [] [] a m all is = (is, tt)
finishes_more binds [] (d ∷ ms) a m all is = absurd all
finishes_more binds (b ∷ arms) [] a m all is = absurd all
finishes_more binds (b ∷ arms) (d ∷ ms) a m all is = (all.0, finishes_more binds arms ms a m all.1 is)

pub arms_more : (texts : Texts) (defined : List FunctionName) (n : ℕ) (env : List Bind) (cs : List ClauseTree) (arms : List ArmTree) (c : ClauseTree) (a : ArmTree) → AreArms texts defined n env cs arms → IsArm texts defined n env c a → AreArms texts defined n env (cs ++ c ∷ []) (arms ++ a ∷ [])
arms_more texts defined n env [] [] c a are is = (is, tt)
arms_more texts defined n env [] (b ∷ arms) c a are is = absurd are
arms_more texts defined n env (d ∷ cs) [] c a are is = absurd are
arms_more texts defined n env (d ∷ cs) (b ∷ arms) c a are is = (are.0, arms_more texts defined n env cs arms c a are.1 is)

module _ (texts : Texts) (defined : List FunctionName) (n : ℕ) (env : List Bind) where
  -- ---- that they can end

  arms_differ : (cs : List ClauseTree) (arms : List ArmTree) → AreArms texts defined n env cs arms → Each (λ a. NamesDiffer a.binds) arms
  arms_differ [] [] are = tt
  arms_differ [] (a ∷ arms) are = absurd are
  arms_differ (c ∷ cs) [] are = absurd are
  arms_differ (c ∷ cs) (a ∷ arms) are = (differ_back env a.binds are.0.differ, arms_differ cs arms are.1)

  pub arms_new : (cs : List ClauseTree) (arms : List ArmTree) → AreArms texts defined n env cs arms → Each (λ a. Each (λ b. held env b.name ≡ None) a.binds) arms
  arms_new [] [] are = tt
  arms_new [] (a ∷ arms) are = absurd are
  arms_new (c ∷ cs) [] are = absurd are
  arms_new (c ∷ cs) (a ∷ arms) are = (binds_behind env a.binds are.0.differ, arms_new cs arms are.1)

  arms_room : (cs : List ClauseTree) (arms : List ArmTree) → AreArms texts defined n env cs arms → n + variables_per_unit * clauses_weight (clauses cs) ≤ most_variables → Each (λ a. a.drawn < most_variables) arms
  arms_room [] [] are enough = tt
  arms_room [] (a ∷ arms) are enough = absurd are
  arms_room (c ∷ cs) [] are enough = absurd are
  arms_room (c ∷ cs) (a ∷ arms) are enough = let one = are.0.enough in (omega arith, arms_room cs arms are.1 (omega arith))

  module _ (cs : List ClauseTree) (arms : List ArmTree) (are : AreArms texts defined n env cs arms) (some : AreSome (clauses cs)) where
    pub few_names : length (shared arms) ≤ clauses_weight (clauses cs)
    few_names =
        few_shared env (shared arms) (clauses cs) (shared_differ arms (arms_differ cs arms are)) (shared_new env arms (arms_new cs arms are))
        (λ y. bound_both env (shared arms) y ∙ shared_named texts defined n env cs arms are some y)

    pub arms_can_end : n + variables_per_unit + variables_per_unit * clauses_weight (clauses cs) ≤ most_variables → ArmsCanEnd n env arms
    arms_can_end enough = record {
      differ = arms_differ cs arms are;
      new = arms_new cs arms are;
      room = arms_room cs arms are (omega arith);
      enough = let few = few_names in omega arith;
    }

  -- ---- one of them

  module _ (binds : List Bind) where
    module _ (c : ClauseTree) (a : ArmTree) (m : core.ClauseTree) (is : IsArm texts defined n env c a) (ends : FinishesArm binds a m) where
      arm_body : IsLoweredBody texts defined c.body (env ++ is.binds) (names_of binds) m.body
      arm_body =
          subst (λ l. IsLoweredBody texts defined c.body (env ++ is.binds) l m.body) ends.named
          (named_either texts defined refl is.is_body ends.own (held_further env a.binds ends.own is.differ ends.are_held) ends.gives)

      arm_lowered : (levels : ℕ) → all_depth (trees c.patterns) ≤ levels → all_depth (trees c.body) ≤ levels → 1 ≤ levels → IsLoweredClause texts defined env levels m
      arm_lowered levels patterns bodies some =
          let found = is.is_pattern in
          let body = arm_body in
          subst (IsLoweredClause texts defined env levels) made_is (record {
            distinct = found.distinct;
            pats = found.lowered;
            guard = is.is_guard.lowered;
            body = body.lowered;
            in_scope = λ vs fs variables functions. (
              found.sizes vs fs,
              is.is_guard.in_scope (pats_vars a.pats ++ vs) fs (tests_known env (pats_vars a.pats) vs is.tests variables found.lefts_in_pattern found.rights_known),
              body.in_scope (pats_vars a.pats ++ vs) fs
                  (has_both env is.binds (pats_vars a.pats ++ vs) (has_more env (pats_vars a.pats) vs variables) (among_each (λ (b : Bind). b.var) (pats_vars a.pats) vs is.binds found.binds_in_pattern)) functions,
            );
            shallow = let p = found.shallow in let g = is.is_guard.shallow in let b = body.shallow in omega arith;
          })
        where
          made_is : ◌≡◌ {A = core.ClauseTree} (record { pats = a.pats; guard = a.guard; body = m.body }) m
          made_is = λ i. record { pats = sym ends.pats i; guard = sym ends.guard i; body = m.body }

    -- ---- all of them

    pub arms_lowered : (cs : List ClauseTree) (arms : List ArmTree) (ms : List core.ClauseTree) → AreArms texts defined n env cs arms → FinishesAll binds arms ms → (levels : ℕ) → clauses_depth (clauses cs) ≤ levels → 1 ≤ levels → Each (IsLoweredClause texts defined env levels) ms
    arms_lowered [] [] [] are all levels deep some = tt
    arms_lowered [] [] (m ∷ ms) are all levels deep some = absurd all
    arms_lowered [] (a ∷ arms) ms are all levels deep some = absurd are
    arms_lowered (c ∷ cs) [] ms are all levels deep some = absurd are
    arms_lowered (c ∷ cs) (a ∷ arms) [] are all levels deep some = absurd all
    arms_lowered (c ∷ cs) (a ∷ arms) (m ∷ ms) are all levels deep some =
        (arm_lowered c a m are.0 all.0 levels (omega arith) (omega arith) some, arms_lowered cs arms ms are.1 all.1 levels (omega arith) some)

    pub arms_keep : (cs : List ClauseTree) (arms : List ArmTree) (ms : List core.ClauseTree) → AreArms texts defined n env cs arms → FinishesAll binds arms ms → KeepsPicks texts (clauses cs) env (names_of binds) ms
    arms_keep [] [] [] are all = picks_none texts env (names_of binds)
    arms_keep [] [] (m ∷ ms) are all = absurd all
    arms_keep [] (a ∷ arms) ms are all = absurd are
    arms_keep (c ∷ cs) [] ms are all = absurd are
    arms_keep (c ∷ cs) (a ∷ arms) [] are all = absurd all
    arms_keep (c ∷ cs) (a ∷ arms) (m ∷ ms) are all =
        let one = are.0 in
        subst (λ g. KeepsPicks texts (t.clause c.place (trees c.patterns) (guards g) (trees c.body) (clauses cs)) env (names_of binds) (m ∷ ms)) (sym one.unguarded)
        (picks_clause texts c.place (trees c.patterns) c.body n env m.pats one.tests one.matched one.binds (names_of binds) m.guard m.body (clauses cs) ms
        (subst (λ ps. KeepsPatterns texts (trees c.patterns) n env ps one.tests one.matched one.binds) (sym all.0.pats) one.is_pattern.matched)
        (subst (IsGuard texts one.tests) (sym all.0.guard) one.is_guard.gives)
        (arm_body c a m one all.0).means
        (arms_keep cs arms ms are.1 all.1))

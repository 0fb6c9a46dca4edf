-- A clause by itself: what its body needs, and the arm that it is lowered to.
use Rattle.std.proofs.Common.{◌≡◌, ◌≤◌, ◌+◌, ◌*◌, ℕ, List, [], ◌∷◌, ◌++◌, drop, take, length, length-append, refl, sym, ap, ◌∙◌, subst, arith, append_assoc}
use Rattle.ef_base.specs.Texts.{Texts}
use Rattle.ef_core.specs.declared.env.Bind.{Bind}
use Rattle.ef_core.specs.Env.{NamesDiffer}
use Rattle.ef_core.specs.Everywhere.{Each}
use Rattle.ef_core.specs.Fresh.{most_variables}
use Rattle.ef_core.specs.Plain.{StepTree}
use Rattle.ef_core.specs.Tree.{CoreTree, PatTrees}
use Rattle.ef_forms.specs.declared.tables.FunctionName.{FunctionName}
use Rattle.ef_forms.specs.Built.{AreBuilt, AreNarrow}
use Rattle.ef_forms.specs.OfTable.{TreesOf}
use Rattle.ef_forms.specs.Plain.{ClauseTree, clauses, trees}
use Rattle.ef_forms.specs.Tree.{Tree}
use Rattle.ef_forms.specs.Ways.{all_names, body_faults, union}
use Rattle.ef_forms.specs.Weight.{all_weight, clauses_weight}
use Rattle.ef_lowpat.specs.Budgets.{variables_per_pattern, variables_per_unit}
use Rattle.ef_meaning.specs.Lowers.{AreBelow}
use Rattle.ef_meaning.proofs.Variables.{are_below_more}
use Rattle.ef_lower.specs.Arms.{IsArm, IsFront}
use Rattle.ef_lower.specs.Lowers.{LowersBody}
use Rattle.ef_lower.specs.Ready.{IsReadableBind, IsReadyClause, bound_names}
use Rattle.ef_lower.proofs.Bodies.{body_enough, body_names}
use Rattle.ef_lower.proofs.Forms.{each_both}
use Rattle.ef_lower.proofs.Names.{drop_front, take_front}
use Rattle.ef_lower.proofs.Sizes.{some_weight}
use Rattle.ef_lower.proofs.Source.{same_set}

-- what a body needs where it is lowered
pub record IsReadyBody (texts : Texts) (defined : List FunctionName) (n : ℕ) (env : List Bind) (es : List Tree) : Type 0 where
  pub some : 1 ≤ length es
  pub built : AreBuilt texts defined (trees es)
  pub narrow : AreNarrow (trees es)
  pub of_table : TreesOf texts (trees es)
  pub readable : Each (IsReadableBind texts) env
  pub no_faults : body_faults texts (trees es) (bound_names env ∷ []) ≡ []
  pub below : AreBelow n env
  pub enough : n + variables_per_unit * all_weight (trees es) ≤ most_variables

one_weight : (ps : List Tree) → length ps ≡ 1 → 1 ≤ all_weight (trees ps)
one_weight [] one = absurd (omega arith)
one_weight (p ∷ ps) one = let some = some_weight p in omega arith

-- there are variables left for the front
pub front_enough : (texts : Texts) (defined : List FunctionName) (n : ℕ) (env : List Bind) (c : ClauseTree) → IsReadyClause texts defined (bound_names env) c → n + variables_per_unit * clauses_weight (clauses (c ∷ [])) ≤ most_variables → n + variables_per_pattern * all_weight (trees c.patterns) + 2 ≤ most_variables
front_enough texts defined n env c ready enough = let some = one_weight c.patterns ready.one in omega arith

module _ (texts : Texts) (defined : List FunctionName) (n : ℕ) (env : List Bind) (c : ClauseTree) (ready : IsReadyClause texts defined (bound_names env) c) (m : ℕ) (env1 : List Bind) (pats : PatTrees) (guard : CoreTree) (front : IsFront texts c n env m env1 pats guard) where
  pub ready_body : Each (IsReadableBind texts) env → n + variables_per_unit * clauses_weight (clauses (c ∷ [])) ≤ most_variables → IsReadyBody texts defined m env1 c.body
  ready_body readable enough =
      let found = front.parts.is_pattern in
      let binds = front.binds in
      subst (λ l. IsReadyBody texts defined m l c.body) (sym front.bound) (record {
        some = ready.some;
        built = ready.built;
        narrow = ready.narrow;
        of_table = ready.of_table;
        readable = each_both (IsReadableBind texts) env binds readable found.readable_binds;
        no_faults = subst (λ s. body_faults texts (trees c.body) (s ∷ []) ≡ []) (sym (same_set (bound_names (env ++ binds)) (union (bound_names env) (all_names (trees c.patterns))) found.names_all)) ready.no_faults;
        below = are_below_more front.parts.matched m (env ++ binds) front.parts.guard_drawn.0 found.matched.below;
        enough = let some = one_weight c.patterns ready.one in let drawn = found.drawn.1 in let more = front.parts.guard_drawn.1 in omega arith;
      })

  module _ (es : List Tree) (same : es ≡ c.body) (old steps : List StepTree) (none : old ≡ []) (last : ℕ) (after : List Bind) (value : CoreTree) (body : LowersBody texts defined es m env1 old steps last after value) (start : ℕ) (place : start ≡ length env) where
    lowers : LowersBody texts defined c.body m (env ++ front.binds) [] steps last after value
    lowers =
        subst (λ l. LowersBody texts defined c.body m (env ++ front.binds) l steps last after value) none
        (subst (λ l. LowersBody texts defined c.body m l old steps last after value) front.bound
        (subst (λ l. LowersBody texts defined l m env1 old steps last after value) same body))

    grown : after ≡ env ++ (front.binds ++ (body_names texts defined refl lowers).more)
    grown = (body_names texts defined refl lowers).grown ∙ append_assoc env front.binds (body_names texts defined refl lowers).more

    -- the names of the clause stand behind those from before
    pub start_within : start ≤ length after
    start_within = let all = ap length grown ∙ length-append env (front.binds ++ (body_names texts defined refl lowers).more) in omega arith

    pub front_is : take start after ≡ env
    front_is = ap (λ i. take i after) place ∙ ap (take (length env)) grown ∙ take_front env (front.binds ++ (body_names texts defined refl lowers).more)

    back_is : after ≡ env ++ drop start after
    back_is =
        grown ∙ ap (λ l. env ++ l) (sym (ap (λ i. drop i after) place ∙ ap (drop (length env)) grown ∙ drop_front env (front.binds ++ (body_names texts defined refl lowers).more)))

    pub one_arm : NamesDiffer after → (own : List Bind) → own ≡ drop start after → IsArm texts defined n env c (record { pats = pats; guard = guard; steps = steps; value = value; binds = own; drawn = last })
    one_arm differ own is = subst (λ l. IsArm texts defined n env c (record { pats = pats; guard = guard; steps = steps; value = value; binds = l; drawn = last })) (sym is) (record {
      tests = front.parts.tests;
      binds = front.binds;
      matched = front.parts.matched;
      guarded = m;
      unguarded = ready.unguarded;
      is_pattern = front.parts.is_pattern;
      is_guard = front.parts.is_guard;
      guard_drawn = front.parts.guard_drawn;
      is_body = subst (λ l. LowersBody texts defined c.body m (env ++ front.binds) [] steps last l value) back_is lowers;
      differ = subst NamesDiffer back_is differ;
      enough =
          let some = one_weight c.patterns ready.one in let drawn = front.parts.is_pattern.drawn.1 in let more = front.parts.guard_drawn.1 in
          let body = body_enough texts defined refl lowers in omega arith;
    })

pub ready_body_as : (texts : Texts) (defined : List FunctionName) (ds es : List Tree) (n : ℕ) (env : List Bind) → ds ≡ es → IsReadyBody texts defined n env es → IsReadyBody texts defined n env ds
ready_body_as texts defined ds es n env same ready = subst (IsReadyBody texts defined n env) (sym same) ready

-- Steps and values in scope, put together.
use Rattle.std.proofs.Common.{◌≡◌, inl, inr, List, [], ◌∷◌, ◌++◌, refl, sym, ap, ◌∙◌, subst, append_assoc}
use Rattle.ef_base.specs.Texts.{Texts}
use Rattle.ef_core.specs.declared.env.Bind.{Bind}
use Rattle.ef_core.specs.declared.literal.CoreVar.{CoreVar}
use Rattle.ef_core.specs.declared.literal.FName.{FName}
use Rattle.ef_core.specs.Everywhere.{Each}
use Rattle.ef_core.specs.LetForm.{IsSimple}
use Rattle.ef_core.specs.Plain.{StepTree, steps, trees}
use Rattle.ef_core.specs.Scope.{IsAmong, AllInScope, InScope, StepsInScope, steps_vars}
use Rattle.ef_core.specs.Tree as c
use Rattle.ef_core.specs.Tree.{CoreTree}
use Rattle.ef_forms.specs.declared.tables.FunctionName.{FunctionName}
use Rattle.ef_meaning.proofs.Parts.{one_step}
use Rattle.ef_lower.specs.Lowers.{Finishes}
use Rattle.ef_lower.specs.Scope.{AreInScope, HasFunctions, HasVariables, IsInScope}

-- ---- more variables

pub among_more : {A : Type 0} (us vs : List A) (v : A) → IsAmong vs v → IsAmong (us ++ vs) v
among_more [] vs v is = is
among_more (u ∷ us) vs v is = inr (among_more us vs v is)

pub among_first : {A : Type 0} (us vs : List A) (v : A) → IsAmong us v → IsAmong (us ++ vs) v
among_first [] vs v is = absurd is
among_first (u ∷ us) vs v (inl is) = inl is
among_first (u ∷ us) vs v (inr is) = inr (among_first us vs v is)

pub has_more : (env : List Bind) (us vs : List CoreVar) → HasVariables env vs → HasVariables env (us ++ vs)
has_more [] us vs has = tt
has_more (b ∷ env) us vs has = (among_more us vs b.var has.0, has_more env us vs has.1)

pub has_both : (env more : List Bind) (vs : List CoreVar) → HasVariables env vs → HasVariables more vs → HasVariables (env ++ more) vs
has_both [] more vs left right = right
has_both (b ∷ env) more vs left right = (left.0, has_both env more vs left.1 right)

simple_further : (us vs : List CoreVar) (fs : List FName) (e : CoreTree) → IsSimple e → InScope vs fs e → InScope (us ++ vs) fs e
simple_further us vs fs (c.var v) simple is = among_more us vs v is
simple_further us vs fs (c.lit l) simple is = tt
simple_further us vs fs e simple is = absurd simple

values_further : (us vs : List CoreVar) (fs : List FName) (es : List CoreTree) → Each IsSimple es → AllInScope vs fs (trees es) → AllInScope (us ++ vs) fs (trees es)
values_further us vs fs [] simple is = tt
values_further us vs fs (e ∷ es) simple is = (simple_further us vs fs e simple.0 is.0, values_further us vs fs es simple.1 is.1)

values_both : (vs : List CoreVar) (fs : List FName) (as' bs : List CoreTree) → AllInScope vs fs (trees as') → AllInScope vs fs (trees bs) → AllInScope vs fs (trees (as' ++ bs))
values_both vs fs [] bs left right = right
values_both vs fs (a ∷ as') bs left right = (left.0, values_both vs fs as' bs left.1 right)

-- ---- steps behind steps

pub vars_both : (a b : List StepTree) (vs : List CoreVar) → steps_vars (steps (a ++ b)) ++ vs ≡ steps_vars (steps b) ++ (steps_vars (steps a) ++ vs)
vars_both [] b vs = refl
vars_both (s ∷ a) b vs =
    append_assoc (steps_vars (steps (a ++ b))) s.vars vs
    ∙ vars_both a b (s.vars ++ vs)
    ∙ ap (λ us. steps_vars (steps b) ++ us) (sym (append_assoc (steps_vars (steps a)) s.vars vs))

pub steps_both : (a b : List StepTree) (vs : List CoreVar) (fs : List FName) → StepsInScope vs fs (steps a) → StepsInScope (steps_vars (steps a) ++ vs) fs (steps b) → StepsInScope vs fs (steps (a ++ b))
steps_both [] b vs fs left right = right
steps_both (s ∷ a) b vs fs left right =
    (left.0, steps_both a b (s.vars ++ vs) fs left.1 (subst (λ us. StepsInScope us fs (steps b)) (append_assoc (steps_vars (steps a)) s.vars vs) right))

module _ (texts : Texts) (defined : List FunctionName) where
  pub nothing_in_scope : (env : List Bind) → AreInScope texts defined env [] env []
  nothing_in_scope env vs fs variables functions = (tt, variables, tt)

  pub value_in_scope : (env : List Bind) (e : CoreTree) → IsInScope texts defined env e → AreInScope texts defined env [] env (e ∷ [])
  value_in_scope env e is vs fs variables functions = (tt, variables, (is vs fs variables functions, tt))

  pub both_in_scope : (env0 env1 env2 : List Bind) (a b : List StepTree) (es ds : List CoreTree) → Each IsSimple es → AreInScope texts defined env0 a env1 es → AreInScope texts defined env1 b env2 ds → AreInScope texts defined env0 (a ++ b) env2 (es ++ ds)
  both_in_scope env0 env1 env2 a b es ds simple left right vs fs variables functions =
      let first = left vs fs variables functions in
      let second = right (steps_vars (steps a) ++ vs) fs first.1 functions in (
        steps_both a b vs fs first.0 second.0,
        subst (HasVariables env2) (sym (vars_both a b vs)) second.1,
        subst (λ us. AllInScope us fs (trees (es ++ ds))) (sym (vars_both a b vs))
            (values_both (steps_vars (steps b) ++ (steps_vars (steps a) ++ vs)) fs es ds
            (values_further (steps_vars (steps b)) (steps_vars (steps a) ++ vs) fs es simple first.2) second.2),
      )

  -- the value in a step of its own, and its variable
  pub put_in_scope : (env0 env1 : List Bind) (ss : List StepTree) (e : CoreTree) (v : CoreVar) → AreInScope texts defined env0 ss env1 (e ∷ []) → AreInScope texts defined env0 (ss ++ one_step v e) env1 (c.var v ∷ [])
  put_in_scope env0 env1 ss e v is vs fs variables functions =
      let before = is vs fs variables functions in (
        steps_both ss (one_step v e) vs fs before.0 (before.2.0, tt),
        subst (HasVariables env1) (sym (vars_both ss (one_step v e) vs)) (has_more env1 (v ∷ []) (steps_vars (steps ss) ++ vs) before.1),
        (subst (λ us. IsAmong us v) (sym (vars_both ss (one_step v e) vs)) (inl refl), tt),
      )

  -- what is made of values that are in scope
  pub made_in_scope : (env0 env1 : List Bind) (ss : List StepTree) (es : List CoreTree) (e : CoreTree) → ((vs : List CoreVar) (fs : List FName) → HasFunctions texts defined fs → AllInScope vs fs (trees es) → InScope vs fs e) →
      AreInScope texts defined env0 ss env1 es → AreInScope texts defined env0 ss env1 (e ∷ [])
  made_in_scope env0 env1 ss es e made is vs fs variables functions =
      let all = is vs fs variables functions in (all.0, all.1, (made (steps_vars (steps ss) ++ vs) fs functions all.2, tt))

  -- the steps and the value as one run
  pub run_in_scope : (env0 env1 : List Bind) (ss : List StepTree) (v e : CoreTree) → AreInScope texts defined env0 ss env1 (v ∷ []) → Finishes ss v e → IsInScope texts defined env0 e
  run_in_scope env0 env1 [] v e is same vs fs variables functions = subst (InScope vs fs) (sym same) (is vs fs variables functions).2.0
  run_in_scope env0 env1 (s ∷ ss) v e is same vs fs variables functions =
      let all = is vs fs variables functions in subst (InScope vs fs) (sym same) (all.0, all.2.0)

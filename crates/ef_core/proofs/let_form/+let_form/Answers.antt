use Rattle.std.proofs.Common.{rules, IsTrue, ◌↔◌, ◌≡◌, sym, ap, ◌∙◌, subst}
use Rattle.ef_core.specs.Laws.{plain_call}
use Rattle.ef_core.specs.LetForm.{AreSimple, IsLetForm}
use Rattle.ef_core.specs.Plain.{plain, plain_all}
use Rattle.ef_core.specs.Tree.{call}
use Rattle.ef_core.proofs.LetForms.{all_simple_are_let_form, def_passed, step_passed}
use Rattle.ef_core.proofs.let_form.+let_form.Goals as goal
use Rattle.ef_core.proofs.let_form.+let_form.Goals.{is_let_form-then-are_simple-2, is_let_form-else-are_simple-2}

pub is_let_form-returns-then-is_let_form-3 : goal.is_let_form-returns-then-is_let_form-3
is_let_form-returns-then-is_let_form-3 t c =
    let m = c.in-Call.module.value in
    let f = c.in-Call.function.value in
    let es = c.in-Call.args.items in
    let same : plain c.args.expr.now ≡ call (plain m) (plain f) (plain_all es) = ap plain c.in-Call.is ∙ plain_call _ _ _ in
    let simple : AreSimple (plain_all es) = elim c.if-are_simple-2.branch [ is_let_form-then-are_simple-2 w ↦ search rules | is_let_form-else-are_simple-2 w ↦ search rules ] in
    let module_is : IsLetForm (plain m) = elim c.if-are_simple-2.branch [ is_let_form-then-are_simple-2 w ↦ search rules | is_let_form-else-are_simple-2 w ↦ search rules ] in
    let function_is : IsTrue c.is_let_form-then-is_let_form-3.result ↔ IsLetForm (plain f) = search rules in (
      λ yes. subst IsLetForm (sym same) (simple, module_is, function_is.0 yes, all_simple_are_let_form (plain_all es) simple),
      λ is. function_is.1 (subst IsLetForm same is).2,
    )

pub are_let_form_defs-loop-def-preserved : goal.are_let_form_defs-loop-def-preserved
are_let_form_defs-loop-def-preserved t c =
    let is : IsLetForm (plain c.def-item.result.body) = search rules in
    def_passed _ _ _ _ c.loop-def-test.true c.def-item.is is c.loop-def.invariant

pub are_let_form_steps-loop-step-preserved : goal.are_let_form_steps-loop-step-preserved
are_let_form_steps-loop-step-preserved t c =
    let is : IsLetForm (plain c.step-item.result.value) = search rules in
    step_passed _ _ _ _ c.loop-step-test.true c.step-item.is is c.loop-step.invariant

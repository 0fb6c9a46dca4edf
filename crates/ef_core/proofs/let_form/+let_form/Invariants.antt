use Rattle.std.proofs.Common.{◌↔◌, drop}
use Rattle.ef_core.specs.Everywhere.{AllHold, ClausesHold, DefsHold, StepsHold}
use Rattle.ef_core.specs.LetForm.{let_form}
use Rattle.ef_core.specs.Plain.{plain_all, plain_clauses, plain_defs, plain_steps}
use Rattle.ef_core.proofs.let_form.+let_form.Given as goal

abbrev pub invariant-are_let_forms-loop-expr : goal.invariant-are_let_forms-loop-expr
invariant-are_let_forms-loop-expr l =
    AllHold let_form (plain_all (drop l.expr-index l.exprs)) ↔ AllHold let_form (plain_all l.exprs)

abbrev pub invariant-are_let_form_steps-loop-step : goal.invariant-are_let_form_steps-loop-step
invariant-are_let_form_steps-loop-step l =
    StepsHold let_form (plain_steps (drop l.step-index l.steps)) ↔ StepsHold let_form (plain_steps l.steps)

abbrev pub invariant-are_let_form_defs-loop-def : goal.invariant-are_let_form_defs-loop-def
invariant-are_let_form_defs-loop-def l =
    DefsHold let_form (plain_defs (drop l.def-index l.defs)) ↔ DefsHold let_form (plain_defs l.defs)

abbrev pub invariant-are_let_form_clauses-loop-clause : goal.invariant-are_let_form_clauses-loop-clause
invariant-are_let_form_clauses-loop-clause l =
    ClausesHold let_form (plain_clauses (drop l.clause-index l.clauses)) ↔ ClausesHold let_form (plain_clauses l.clauses)

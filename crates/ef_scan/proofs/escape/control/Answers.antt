use Rattle.std.proofs.Common.{sym, ◌∙◌}
use Rattle.ef_scan.proofs.Escaping.{if_none, control_none, control_other, control_is, control_question}
use Rattle.ef_scan.proofs.escape.control.Goals as goal

pub returns-in_err-first-clause-none : goal.returns-in_err-first-clause-none
returns-in_err-first-clause-none c = if_none c.from_residual.result (control_none c.args.at c.in_err-first.ensures.none)

pub returns-then-first-eq63-clause-some : goal.returns-then-first-eq63-clause-some
returns-then-first-eq63-clause-some c = control_question c.args.at c.in_ok-first.first.1 c.in_ok-first.first.0 c.in_ok-first.ensures.some c.if-first-eq63.true

pub returns-then-not-is_control-clause-none : goal.returns-then-not-is_control-clause-none
returns-then-not-is_control-clause-none c =
    control_other c.args.at c.in_ok-first.first.1 c.in_ok-first.first.0 c.in_ok-first.ensures.some (sym c.is_control.ensures ∙ c.if-not-is_control.true) c.if-first-eq63.false

pub returns-clause-some : goal.returns-clause-some
returns-clause-some c =
    control_is c.args.at c.in_ok-first.first.1 c.in_ok-first.first.0 c.character.result c.in_ok-first.ensures.some (sym c.is_control.ensures ∙ c.if-not-is_control.false) c.character.ensures

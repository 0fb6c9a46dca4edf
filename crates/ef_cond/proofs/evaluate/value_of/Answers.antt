use Rattle.std.proofs.Common.{subst}
use Rattle.ef_grammar.specs.Answers.{IsOutcome}
use Rattle.ef_cond.specs.declared.rows.RuleName.TheVariants as rule
use Rattle.ef_cond.specs.declared.evaluate.Verdict.TheVariants.{Faulty}
use Rattle.ef_cond.specs.Actions.{nothing}
use Rattle.ef_cond.specs.Condition.{grammar}
use Rattle.ef_base.specs.FaultTable.{illegal_condition}
use Rattle.ef_cond.specs.Values.{shown}
use Rattle.ef_cond.proofs.OneVerdict.{said_now, none_now, said_later}
use Rattle.ef_cond.proofs.evaluate.value_of.Goals as goal

pub returns-in-Read : goal.returns-in-Read
returns-in-Read c all ext =
    said_later c.args.names.now all c.args.tokens.now c.said.result c.requires ext
    (said_now c.args.names.now c.args.tokens.now c.in-Read.read
    (subst (λ o. IsOutcome (grammar c.args.names.now) shown rule.Orelse nothing c.args.tokens.now o) c.in-Read.is c.in_ok-read.ensures) c.said.result c.said.ensures)

pub returns-in-Refused : goal.returns-in-Refused
returns-in-Refused c all ext =
    said_later c.args.names.now all c.args.tokens.now (Faulty illegal_condition) c.requires ext
    (none_now c.args.names.now c.args.tokens.now c.in-Refused._at
    (subst (λ o. IsOutcome (grammar c.args.names.now) shown rule.Orelse nothing c.args.tokens.now o) c.in-Refused.is c.in_ok-read.ensures))

use Rattle.std.proofs.Common.{IfOk, subst}
use Rattle.ef_grammar.specs.Answers.{IsOutcome}
use Rattle.ef_cond.specs.declared.rows.RuleName.TheVariants as rule
use Rattle.ef_cond.specs.Condition.{grammar}
use Rattle.ef_cond.specs.Values.{shown}
use Rattle.ef_cond.proofs.evaluate.run.Goals as goal

pub returns : goal.returns
returns c = subst (λ v. IfOk c.parse.result (λ o. IsOutcome (grammar c.args.names.now) shown rule.Orelse v c.args.tokens.now o)) c.new.ensures c.parse.ensures

use Rattle.std.proofs.Common.{◌≡◌, IfOk, subst}
use Rattle.ef_grammar.specs.Answers.{IsOutcome}
use Rattle.ef_build.specs.Values.{shown}
use Rattle.ef_rows.specs.Erlang.{grammar}
use Rattle.ef_rows.proofs.single.run.Goals as goal

pub returns : goal.returns
returns c = subst (λ v. IfOk c.parse.result (λ o. IsOutcome (grammar c.args.names.now) shown c.args.start v c.args.tokens.now o)) c.new.ensures c.parse.ensures

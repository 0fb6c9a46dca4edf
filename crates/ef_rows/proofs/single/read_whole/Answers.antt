use Rattle.std.proofs.Common.{◌≡◌, None, subst}
use Rattle.ef_grammar.specs.Answers.{IsOutcome}
use Rattle.ef_build.specs.Stack.{nothing}
use Rattle.ef_build.specs.Values.{shown}
use Rattle.ef_rows.specs.Erlang.{grammar}
use Rattle.ef_rows.specs.Makes.{rule_of}
use Rattle.ef_rows.proofs.OneSingle.{single_now, none_now, single_later}
use Rattle.ef_rows.proofs.single.read_whole.Goals as goal

pub returns-in-Read : goal.returns-in-Read
returns-in-Read c all ext =
    single_later c.args.names.now all c.args.start c.args.tokens.now c.taken.result c.requires ext
    (single_now c.args.names.now c.args.start c.args.tokens.now c.in-Read.read
    (subst (λ o. IsOutcome (grammar c.args.names.now) shown (rule_of c.args.start) nothing c.args.tokens.now o) c.in-Read.is (subst (λ n. IsOutcome (grammar c.args.names.now) shown n nothing c.args.tokens.now c.in_ok-read.field-0) c.rule_of.ensures.rule c.in_ok-read.ensures)) c.taken.result c.taken.ensures)

pub returns-in-Refused : goal.returns-in-Refused
returns-in-Refused c all ext =
    single_later c.args.names.now all c.args.start c.args.tokens.now None c.requires ext
    (none_now c.args.names.now c.args.start c.args.tokens.now c.in-Refused._at
    (subst (λ o. IsOutcome (grammar c.args.names.now) shown (rule_of c.args.start) nothing c.args.tokens.now o) c.in-Refused.is (subst (λ n. IsOutcome (grammar c.args.names.now) shown n nothing c.args.tokens.now c.in_ok-read.field-0) c.rule_of.ensures.rule c.in_ok-read.ensures)))

use Rattle.std.proofs.Common.{[]}
use Rattle.ef_module.specs.Refused.{token_faults}
use Rattle.ef_module.proofs.FormFound.{at_tokens}
use Rattle.ef_module.proofs.Sets.{is_none, is_some, none_written}
use Rattle.ef_module.proofs.forms.find_form.Goals as goal

pub returns-then-not-is_empty : goal.returns-then-not-is_empty
returns-then-not-is_empty c = λ all e.
    at_tokens c.args.names.now all e c.args.tokens.now c.requires.named c.add_token_faults.new.found
    (c.in_ok-add_token_faults.ensures [] c.requires.none) (is_some c.add_token_faults.new.found c.is_empty.result c.is_empty.ensures c.if-not-is_empty.true)

pub find_spelled-requires-clause-none : goal.find_spelled-requires-clause-none
find_spelled-requires-clause-none c = is_none c.add_token_faults.new.found c.is_empty.result c.is_empty.ensures c.if-not-is_empty.false

pub find_spelled-requires-clause-faultless : goal.find_spelled-requires-clause-faultless
find_spelled-requires-clause-faultless c =
    none_written c.add_token_faults.new.found (token_faults c.args.names.now c.args.tokens.now)
    (c.in_ok-add_token_faults.ensures [] c.requires.none) (is_none c.add_token_faults.new.found c.is_empty.result c.is_empty.ensures c.if-not-is_empty.false)

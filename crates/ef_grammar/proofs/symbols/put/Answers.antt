use Rattle.std.proofs.Common.{map}
use Rattle.ef_grammar.specs.Shown.{symbol}
use Rattle.ef_grammar.proofs.Passing.{vanish_none}
use Rattle.ef_grammar.proofs.symbols.put.Goals as goal

pub returns-clause-passes : goal.returns-clause-passes
returns-clause-passes g c t h e = (vanish_none t (map symbol c.args.right.now), c.in_ok-wait-2.ensures.passes t (c.in_ok-wait.ensures.passes t h.1 h.0) e)

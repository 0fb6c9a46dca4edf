use Rattle.std.proofs.Common.{sym, ◌∙◌}
use Rattle.ef_lowpat.proofs.Found.{none_right}
use Rattle.ef_lowpat.proofs.patterns.note.Goals as goal

pub push-requires-in-None-2 : goal.push-requires-in-None-2
push-requires-in-None-2 c = none_right c.args.bound.now c.args.found.now.own c.args.name (sym c.known.ensures ∙ c.in-None.is)

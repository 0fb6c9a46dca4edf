use Rattle.std.proofs.Common.{sym, ◌∙◌}
use Rattle.ef_core.proofs.Held.{held_back, held_front}
use Rattle.ef_lowpat.proofs.patterns.known.Goals as goal

pub returns-in-Some : goal.returns-in-Some
returns-in-Some c = sym (held_front c.args.bound.now c.args.own.now c.args.name c.in-Some.var (sym c.var_of.ensures ∙ c.in-Some.is))

pub returns-in-None : goal.returns-in-None
returns-in-None c = c.var_of-in-None.ensures ∙ sym (held_back c.args.bound.now c.args.own.now c.args.name (sym c.var_of.ensures ∙ c.in-None.is))

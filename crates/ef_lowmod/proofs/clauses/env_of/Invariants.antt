use Rattle.std.proofs.Common.{◌≡◌, take}
use Rattle.ef_lowmod.proofs.clauses.env_of.Given as goal

abbrev pub invariant-loop-bind : goal.invariant-loop-bind
invariant-loop-bind l = l.env ≡ take l.bind-index l.binds

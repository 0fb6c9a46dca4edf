use Rattle.std.proofs.Common.{◌≡◌, take}
use Rattle.ef_core.proofs.env.Env.copy.Given as goal

abbrev pub invariant-loop-bind : goal.invariant-loop-bind
invariant-loop-bind l = l.copy ≡ take l.bind-index l.self

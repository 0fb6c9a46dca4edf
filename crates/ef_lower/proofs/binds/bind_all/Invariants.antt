use Rattle.std.proofs.Common.{◌≡◌, ◌++◌, take}
use Rattle.ef_lower.proofs.binds.bind_all.Given as goal

abbrev pub invariant-loop-bind : goal.invariant-loop-bind
invariant-loop-bind l = l.env ≡ l.fn.env ++ take l.bind-index l.binds

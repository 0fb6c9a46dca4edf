use Rattle.std.proofs.Common.{◌≡◌, ◌++◌, map, take}
use Rattle.ef_core.specs.Plain.{plain}
use Rattle.ef_lower.specs.Exports.{held_variables}
use Rattle.ef_lower.proofs.values.push_variables.Given as goal

abbrev pub invariant-loop-bind : goal.invariant-loop-bind
invariant-loop-bind l = map plain l.values.items ≡ map plain l.fn.values.items ++ held_variables (take l.bind-index l.binds)

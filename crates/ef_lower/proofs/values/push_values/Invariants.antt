use Rattle.std.proofs.Common.{◌≡◌, ◌++◌, map, take}
use Rattle.ef_core.specs.Plain.{plain}
use Rattle.ef_meaning.specs.Cases.{variables}
use Rattle.ef_lower.proofs.values.push_values.Given as goal

abbrev pub invariant-loop-var : goal.invariant-loop-var
invariant-loop-var l = map plain l.values.items ≡ map plain l.fn.values.items ++ variables (take l.var-index l.vars)

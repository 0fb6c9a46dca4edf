use Rattle.std.proofs.Common.{◌≡◌, ◌≤◌, length, take}
use Rattle.ef_build.specs.Expressions.{at_catch}
use Rattle.ef_build.specs.Values.{stack}
use Rattle.ef_build.proofs.catches.at_catch.Given as goal

abbrev pub invariant-loop-left : goal.invariant-loop-left
invariant-loop-left l = (l.left ≤ length l.values) × (at_catch (stack (take l.left l.values)) ≡ at_catch (stack l.values))

abbrev pub decreases-loop-left : goal.decreases-loop-left
decreases-loop-left l = l.left

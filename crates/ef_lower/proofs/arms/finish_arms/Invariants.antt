use Rattle.std.proofs.Common.{map}
use Rattle.ef_core.specs.Plain.{plain_clause}
use Rattle.ef_lower.specs.Arms.{FinishesAll, plain_arm}
use Rattle.ef_lower.proofs.arms.finish_arms.Given as goal

abbrev pub invariant-loop-arm : goal.invariant-loop-arm
invariant-loop-arm l =
    (goal.iterator-loop-arm).can_next l.arm-iterator ×
    (goal.iterator-loop-arm).is_finite l.arm-iterator ×
    FinishesAll l.binds (map plain_arm l.yielded) (map plain_clause l.clauses.items)

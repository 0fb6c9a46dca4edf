use Rattle.std.proofs.Common.{◌≡◌, drop, map}
use Rattle.ef_lower.specs.Arms.{bound_by_all, plain_arm}
use Rattle.ef_lower.proofs.arms.shared_names.Given as goal

abbrev pub invariant-loop-arm : goal.invariant-loop-arm
invariant-loop-arm l = bound_by_all (map plain_arm (drop l.arm-index l.others)) l.binds.items ≡ bound_by_all (map plain_arm l.others) l.initial.binds.items

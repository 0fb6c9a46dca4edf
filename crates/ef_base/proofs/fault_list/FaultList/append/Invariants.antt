use Rattle.std.proofs.Common.{◌≡◌, ◌++◌, List}
use Rattle.ef_base.specs.declared.fault.Fault.{Fault}
use Rattle.ef_base.specs.Faults.{set_of}
use Rattle.ef_base.proofs.fault_list.FaultList.append.Given as goal

abbrev pub invariant-loop-fault : goal.invariant-loop-fault
invariant-loop-fault l = (before : List Fault) → l.initial.self ≡ set_of before → l.self ≡ set_of (before ++ l.yielded)

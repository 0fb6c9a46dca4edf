use Rattle.std.proofs.Common.{◌∙◌, ◌++◌, ◌∷◌, [], ap, append_assoc}
use Rattle.ef_base.specs.Faults.{set_of, insert_fault}
use Rattle.ef_base.proofs.FaultLaws.{set_of-push}
use Rattle.ef_base.proofs.fault_list.FaultList.append.Goals as goal

pub loop-fault-preserved : goal.loop-fault-preserved
loop-fault-preserved c = λ before is.
    c.in_ok-push.ensures.ok ∙ ap (insert_fault c.in-Some.fault) (c.loop-fault.invariant before is)
    ∙ set_of-push (before ++ c.loop-fault.yielded) c.in-Some.fault ∙ ap set_of (append_assoc before c.loop-fault.yielded (c.in-Some.fault ∷ []))

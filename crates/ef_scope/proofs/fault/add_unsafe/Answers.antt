use Rattle.std.proofs.Common.{◌∙◌, ap}
use Rattle.ef_base.specs.Faults.{insert_fault}
use Rattle.ef_base.specs.NamedFaults as fault
use Rattle.ef_scope.proofs.Adds.{adds_one}
use Rattle.ef_scope.proofs.fault.add_unsafe.Goals as goal

pub returns : goal.returns
returns c =
    adds_one c.args.found.now c.push.new.self (fault.unsafe c.args.place c.args.name.now)
    (c.in_ok-push.ensures.ok ∙ ap (λ f. insert_fault f c.args.found.now) c.in_ok-unsafe_use.ensures)

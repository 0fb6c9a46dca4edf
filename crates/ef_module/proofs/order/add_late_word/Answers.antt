use Rattle.std.proofs.Common.{ap, ◌∙◌}
use Rattle.std.proofs.lemmas.Result.{on_ok_weaker}
use Rattle.ef_base.specs.Faults.{insert_fault}
use Rattle.ef_base.specs.FaultTable as table
use Rattle.ef_base.specs.NamedFaults.{naming}
use Rattle.ef_profile.proofs.Adding.{adds_one}
use Rattle.ef_module.proofs.order.add_late_word.Goals as goal

pub returns : goal.returns
returns c = on_ok_weaker c.push.result (λ pushed.
    adds_one c.args.found.now c.push.new.self (naming c.args.place table.after_functions c.args.word.now) (pushed ∙ ap (λ f. insert_fault f c.args.found.now) c.in_ok-fault.ensures)) c.push.ensures.ok

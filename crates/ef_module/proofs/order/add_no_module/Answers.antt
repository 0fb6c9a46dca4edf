use Rattle.std.proofs.Common.{sym, subst, ap, ◌∙◌}
use Rattle.ef_base.specs.Faults.{insert_fault}
use Rattle.ef_base.specs.NamedFaults.{no_module}
use Rattle.ef_profile.specs.Adds.{Adds}
use Rattle.ef_module.specs.Modules.{no_module_faults}
use Rattle.ef_profile.proofs.Adding.{adds_one}
use Rattle.ef_module.proofs.order.add_no_module.Goals as goal

pub returns-in_ok-push : goal.returns-in_ok-push
returns-in_ok-push c =
    subst (λ b. Adds (no_module_faults b) c.args.found.now c.push.new.self) (sym c.if-not-has.true)
    (adds_one c.args.found.now c.push.new.self no_module (c.in_ok-push.ensures.ok ∙ ap (λ f. insert_fault f c.args.found.now) c.no_module.ensures))

use Rattle.std.proofs.Common.{sym, subst, ap, ◌∙◌}
use Rattle.ef_base.specs.Faults.{insert_fault}
use Rattle.ef_base.specs.NamedFaults as fault
use Rattle.ef_profile.specs.Adds.{Adds, where_}
use Rattle.ef_profile.proofs.Adding.{adds_one}
use Rattle.ef_profile.proofs.add.add_if.Goals as goal

pub returns-in_ok-push : goal.returns-in_ok-push
returns-in_ok-push c =
    let made = fault.plain c.args.place c.args.code in
    subst (λ b. Adds (where_ b made) c.args.found.now c.push.new.self) (sym c.if-is_fault.true)
    (adds_one c.args.found.now c.push.new.self made (c.in_ok-push.ensures.ok ∙ ap (λ f. insert_fault f c.args.found.now) c.plain.ensures))

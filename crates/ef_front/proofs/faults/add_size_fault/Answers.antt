use Rattle.std.proofs.Common.{sym, ap, ◌∙◌}
use Rattle.ef_base.specs.Faults.{insert_fault}
use Rattle.ef_forms.specs.Plain.{plain_function}
use Rattle.ef_front.proofs.Added.{size_one}
use Rattle.ef_front.proofs.faults.add_size_fault.Goals as goal

pub returns-in_ok-push : goal.returns-in_ok-push
returns-in_ok-push c =
    size_one c.args.place (plain_function c.args.function.now) c.args.found.now c.push.new.self
    (sym c.is_too_large.ensures ∙ c.if-is_too_large.true)
    (c.in_ok-push.ensures.ok ∙ ap (λ f. insert_fault f c.args.found.now) c.plain.ensures)

use Rattle.std.proofs.Common.{◌≡◌, sym, subst, ap, ◌∙◌, []}
use Rattle.std.proofs.lemmas.Result.{on_ok_weaker}
use Rattle.ef_base.specs.Faults.{insert_fault}
use Rattle.ef_base.specs.FaultTable as table
use Rattle.ef_base.specs.NamedFaults.{plain}
use Rattle.ef_profile.specs.Adds.{Adds}
use Rattle.ef_profile.proofs.Adding.{adds_none, adds_one}
use Rattle.ef_module.proofs.Rests.{number_last, number_end}
use Rattle.ef_module.proofs.order.add_number.Goals as goal

pub returns-then-left-eq0 : goal.returns-then-left-eq0
returns-then-left-eq0 c =
    let f = c.placed-item.result in
    let made = plain f.place table.too_many_functions in
    let same : c.loop-placed.found ≡ c.args.found.now = c.loop-placed.invariant.same in
    on_ok_weaker c.push.result (λ pushed.
    subst (λ l. Adds l c.args.found.now c.push.new.self)
    (sym (number_last c.loop-placed.left c.args.forms.now c.loop-placed.placed-index f c.loop-placed-test.true c.placed-item.is (sym c.is_function.ensures ∙ c.if-is_function.true) c.if-left-eq0.true) ∙ c.loop-placed.invariant.counted)
    (adds_one c.args.found.now c.push.new.self made (pushed ∙ ap (insert_fault c.plain.result) same ∙ ap (λ g. insert_fault g c.args.found.now) c.plain.ensures))) c.push.ensures.ok

pub returns : goal.returns
returns c =
    let same : c.loop-placed.found ≡ c.args.found.now = c.loop-placed.invariant.same in
    subst (λ l. Adds l c.args.found.now c.loop-placed.found)
    (sym (number_end c.loop-placed.left c.args.forms.now c.loop-placed.placed-index c.loop-placed-test.false) ∙ c.loop-placed.invariant.counted)
    (subst (Adds [] c.args.found.now) (sym same) (adds_none c.args.found.now))

use Rattle.std.proofs.Common.{length, slice_range}
use Rattle.ef_forms.specs.Plain.{plain_placed}
use Rattle.ef_module.specs.Modules.{is_function}
use Rattle.ef_module.proofs.Rests.{front_range, or_left, or_right, late_step, late_end}
use Rattle.ef_module.proofs.order.add_late.Goals as goal

pub loop-rest-preserved-then-seen : goal.loop-rest-preserved-then-seen
loop-rest-preserved-then-seen c = λ new two.
    let rest = c.loop-rest.rest.now in
    let f = c.first-item.result in
    c.loop-rest.invariant new
    (late_step c.loop-rest.seen c.loop-rest.seen rest f (slice_range rest 1 (length rest)) c.loop-rest.found c.add_late_form.new.found new
    (or_left c.loop-rest.seen (is_function (plain_placed f).form) c.if-seen.true) (front_range rest f c.in-len1-up.len_at_least c.first-item.is) c.in_ok-add_late_form.ensures two)

pub loop-rest-preserved : goal.loop-rest-preserved
loop-rest-preserved c = λ new two.
    let rest = c.loop-rest.rest.now in
    let f = c.first-item.result in
    c.loop-rest.invariant new
    (late_step c.loop-rest.seen c.is_function-seen.result rest f (slice_range rest 1 (length rest)) c.loop-rest.found c.add_late_form.new.found new
    (or_right c.loop-rest.seen (is_function (plain_placed f).form) c.is_function-seen.result c.if-seen.false c.is_function-seen.ensures) (front_range rest f c.in-len1-up.len_at_least c.first-item.is) c.in_ok-add_late_form.ensures two)

pub returns : goal.returns
returns c = c.loop-rest.invariant c.loop-rest.found (late_end c.loop-rest.seen c.loop-rest.rest.now c.loop-rest.found c.in_default.len_below)

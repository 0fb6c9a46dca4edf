use Rattle.std.proofs.Common.{◌∙◌, ap}
use Rattle.ef_forms.specs.Depth.{all_depth}
use Rattle.ef_forms.specs.Plain.{plain_all}
use Rattle.ef_forms.specs.Weight.{all_weight}
use Rattle.ef_front.specs.Sizes.{size}
use Rattle.ef_front.proofs.Counted.{guard_more, guard_end}
use Rattle.ef_front.proofs.sizes.size_of_guard.Goals as goal

pub loop-tests-preserved : goal.loop-tests-preserved
loop-tests-preserved c =
    guard_more c.args.guard.now c.loop-tests.tests-index c.tests-item.result c.loop-tests.so_far c.size_of_all.result c.joined-so_far.result c.loop-tests-test.true c.tests-item.is (c.size_of_all.ensures ∙ ap (λ es. size (all_depth (plain_all es)) (all_weight (plain_all es))) c.deref.ensures.value) c.joined-so_far.ensures c.loop-tests.invariant

pub returns : goal.returns
returns c = guard_end c.args.guard.now c.loop-tests.tests-index c.loop-tests.so_far c.loop-tests-test.false c.loop-tests.invariant

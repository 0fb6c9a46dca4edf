use Rattle.std.proofs.Common.{rules}
use Rattle.ef_core.specs.Everywhere.{PatHolds}
use Rattle.ef_core.specs.LetForm.{IsSimple, let_form}
use Rattle.ef_core.specs.Plain.{plain, plain_pat}
use Rattle.ef_core.proofs.LetForms.{segment_passed}
use Rattle.ef_core.proofs.let_form.+sizes.Goals as goal

pub are_segments_of_simple_size-loop-segment-preserved : goal.are_segments_of_simple_size-loop-segment-preserved
are_segments_of_simple_size-loop-segment-preserved t c =
    let simple : IsSimple (plain c.segment-item.result.size) = search rules in
    let is : PatHolds let_form (plain_pat c.segment-item.result.value) = search rules in
    segment_passed _ _ _ _ c.loop-segment-test.true c.segment-item.is simple is c.loop-segment.invariant

use Rattle.std.proofs.Common.{◌↔◌, drop}
use Rattle.ef_core.specs.LetForm.{AreSimpleSegments}
use Rattle.ef_core.specs.Plain.{plain_segments}
use Rattle.ef_core.proofs.let_form.are_simple_segments.Given as goal

abbrev pub invariant-loop-segment : goal.invariant-loop-segment
invariant-loop-segment l =
    AreSimpleSegments (plain_segments (drop l.segment-index l.segments)) ↔ AreSimpleSegments (plain_segments l.segments)

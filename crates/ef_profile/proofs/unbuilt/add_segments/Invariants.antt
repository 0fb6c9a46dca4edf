use Rattle.std.proofs.Common.{take}
use Rattle.std.specs.List.{flat_map}
use Rattle.ef_forms.specs.declared.expr.Segment.{Segment}
use Rattle.ef_forms.specs.Shown.{show_segment}
use Rattle.ef_profile.specs.Adds.{Adds}
use Rattle.ef_profile.specs.Unbuilt.{segment_faults}
use Rattle.ef_profile.proofs.unbuilt.add_segments.Given as goal

abbrev pub invariant-loop-segment : goal.invariant-loop-segment
invariant-loop-segment l = Adds (flat_map (λ (s : Segment). segment_faults l.names (show_segment s)) (take l.segment-index l.segments)) l.initial.found l.found

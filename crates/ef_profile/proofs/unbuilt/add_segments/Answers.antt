use Rattle.std.proofs.Common.{sym, subst}
use Rattle.ef_forms.specs.declared.expr.Segment.{Segment}
use Rattle.ef_forms.specs.Shown.{show_segment}
use Rattle.ef_profile.specs.Adds.{Adds}
use Rattle.ef_profile.specs.Unbuilt.{segment_faults}
use Rattle.ef_profile.proofs.Adding.{adds_all, adds_more, flat_map-map}
use Rattle.ef_profile.proofs.unbuilt.add_segments.Goals as goal

pub loop-segment-preserved : goal.loop-segment-preserved
loop-segment-preserved c =
    adds_more (λ (s : Segment). segment_faults c.args.names.now (show_segment s)) c.args.segments.now c.loop-segment.segment-index c.segment-item.result
    c.args.found.now c.loop-segment.found c.add_segment.new.found c.loop-segment-test.true c.segment-item.is c.loop-segment.invariant c.in_ok-add_segment.ensures

pub returns : goal.returns
returns c =
    let rule = segment_faults c.args.names.now in
    subst (λ l. Adds l c.args.found.now c.loop-segment.found) (sym (flat_map-map rule show_segment c.args.segments.now))
    (adds_all (λ (s : Segment). rule (show_segment s)) c.args.segments.now c.loop-segment.segment-index c.args.found.now c.loop-segment.found c.loop-segment-test.false c.loop-segment.invariant)

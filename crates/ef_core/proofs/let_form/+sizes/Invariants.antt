use Rattle.std.proofs.Common.{◌↔◌, drop}
use Rattle.ef_core.specs.Everywhere.{PatSegmentsHold, PatsHold}
use Rattle.ef_core.specs.LetForm.{HaveSimpleSizes, let_form}
use Rattle.ef_core.specs.Plain.{plain_pat_segments, plain_pats}
use Rattle.ef_core.proofs.let_form.+sizes.Given as goal

abbrev pub invariant-have_simple_sizes-loop-pat : goal.invariant-have_simple_sizes-loop-pat
invariant-have_simple_sizes-loop-pat l =
    PatsHold let_form (plain_pats (drop l.pat-index l.pats)) ↔ PatsHold let_form (plain_pats l.pats)

abbrev pub invariant-are_segments_of_simple_size-loop-segment : goal.invariant-are_segments_of_simple_size-loop-segment
invariant-are_segments_of_simple_size-loop-segment l =
    (HaveSimpleSizes (plain_pat_segments (drop l.segment-index l.segments)) × PatSegmentsHold let_form (plain_pat_segments (drop l.segment-index l.segments))) ↔ (HaveSimpleSizes (plain_pat_segments l.segments) × PatSegmentsHold let_form (plain_pat_segments l.segments))

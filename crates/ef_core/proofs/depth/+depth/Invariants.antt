use Rattle.std.proofs.Common.{◌≡◌, ◌<◌, ◌-◌, ◌^◌, drop, max, min}
use Rattle.ef_core.specs.Depth.{all_depth, clauses_depth, defs_depth, pat_segments_depth, pats_depth, segments_depth, steps_depth}
use Rattle.ef_core.specs.Plain.{plain_all, plain_clauses, plain_defs, plain_pat_segments, plain_pats, plain_segments, plain_steps}
use Rattle.ef_core.proofs.depth.+depth.Given as goal

abbrev pub invariant-depth_of_all-loop-expr : goal.invariant-depth_of_all-loop-expr
invariant-depth_of_all-loop-expr l =
    (l.so_far < 2 ^ 32) × (min (max l.so_far (all_depth (plain_all (drop l.expr-index l.exprs)))) (2 ^ 32 - 1) ≡ min (all_depth (plain_all l.exprs)) (2 ^ 32 - 1))

abbrev pub invariant-depth_of_segments-loop-segment : goal.invariant-depth_of_segments-loop-segment
invariant-depth_of_segments-loop-segment l =
    (l.so_far < 2 ^ 32) × (min (max l.so_far (segments_depth (plain_segments (drop l.segment-index l.segments)))) (2 ^ 32 - 1) ≡ min (segments_depth (plain_segments l.segments)) (2 ^ 32 - 1))

abbrev pub invariant-depth_of_steps-loop-step : goal.invariant-depth_of_steps-loop-step
invariant-depth_of_steps-loop-step l =
    (l.so_far < 2 ^ 32) × (min (max l.so_far (steps_depth (plain_steps (drop l.step-index l.steps)))) (2 ^ 32 - 1) ≡ min (steps_depth (plain_steps l.steps)) (2 ^ 32 - 1))

abbrev pub invariant-depth_of_defs-loop-def : goal.invariant-depth_of_defs-loop-def
invariant-depth_of_defs-loop-def l =
    (l.so_far < 2 ^ 32) × (min (max l.so_far (defs_depth (plain_defs (drop l.def-index l.defs)))) (2 ^ 32 - 1) ≡ min (defs_depth (plain_defs l.defs)) (2 ^ 32 - 1))

abbrev pub invariant-depth_of_clauses-loop-clause : goal.invariant-depth_of_clauses-loop-clause
invariant-depth_of_clauses-loop-clause l =
    (l.so_far < 2 ^ 32) × (min (max l.so_far (clauses_depth (plain_clauses (drop l.clause-index l.clauses)))) (2 ^ 32 - 1) ≡ min (clauses_depth (plain_clauses l.clauses)) (2 ^ 32 - 1))

abbrev pub invariant-depth_of_patterns-loop-pat : goal.invariant-depth_of_patterns-loop-pat
invariant-depth_of_patterns-loop-pat l =
    (l.so_far < 2 ^ 32) × (min (max l.so_far (pats_depth (plain_pats (drop l.pat-index l.pats)))) (2 ^ 32 - 1) ≡ min (pats_depth (plain_pats l.pats)) (2 ^ 32 - 1))

abbrev pub invariant-depth_of_pattern_segments-loop-segment : goal.invariant-depth_of_pattern_segments-loop-segment
invariant-depth_of_pattern_segments-loop-segment l =
    (l.so_far < 2 ^ 32) × (min (max l.so_far (pat_segments_depth (plain_pat_segments (drop l.segment-index l.segments)))) (2 ^ 32 - 1) ≡ min (pat_segments_depth (plain_pat_segments l.segments)) (2 ^ 32 - 1))

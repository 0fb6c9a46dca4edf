use Rattle.std.proofs.Common.{◌≡◌, ◌<◌, ◌+◌, ◌-◌, ◌^◌, drop, min}
use Rattle.ef_core.specs.Plain.{plain_all, plain_clauses, plain_defs, plain_pat_segments, plain_pats, plain_segments, plain_steps}
use Rattle.ef_core.specs.Weight.{all_weight, clauses_weight, defs_weight, pat_segments_weight, pats_weight, segments_weight, steps_weight}
use Rattle.ef_core.proofs.weight.+weight.Given as goal

abbrev pub invariant-weight_of_all-loop-expr : goal.invariant-weight_of_all-loop-expr
invariant-weight_of_all-loop-expr l =
    (l.so_far < 2 ^ 64) × (min (l.so_far + all_weight (plain_all (drop l.expr-index l.exprs))) (2 ^ 64 - 1) ≡ min (all_weight (plain_all l.exprs)) (2 ^ 64 - 1))

abbrev pub invariant-weight_of_segments-loop-segment : goal.invariant-weight_of_segments-loop-segment
invariant-weight_of_segments-loop-segment l =
    (l.so_far < 2 ^ 64) × (min (l.so_far + segments_weight (plain_segments (drop l.segment-index l.segments))) (2 ^ 64 - 1) ≡ min (segments_weight (plain_segments l.segments)) (2 ^ 64 - 1))

abbrev pub invariant-weight_of_steps-loop-step : goal.invariant-weight_of_steps-loop-step
invariant-weight_of_steps-loop-step l =
    (l.so_far < 2 ^ 64) × (min (l.so_far + steps_weight (plain_steps (drop l.step-index l.steps))) (2 ^ 64 - 1) ≡ min (steps_weight (plain_steps l.steps)) (2 ^ 64 - 1))

abbrev pub invariant-weight_of_defs-loop-def : goal.invariant-weight_of_defs-loop-def
invariant-weight_of_defs-loop-def l =
    (l.so_far < 2 ^ 64) × (min (l.so_far + defs_weight (plain_defs (drop l.def-index l.defs))) (2 ^ 64 - 1) ≡ min (defs_weight (plain_defs l.defs)) (2 ^ 64 - 1))

abbrev pub invariant-weight_of_clauses-loop-clause : goal.invariant-weight_of_clauses-loop-clause
invariant-weight_of_clauses-loop-clause l =
    (l.so_far < 2 ^ 64) × (min (l.so_far + clauses_weight (plain_clauses (drop l.clause-index l.clauses))) (2 ^ 64 - 1) ≡ min (clauses_weight (plain_clauses l.clauses)) (2 ^ 64 - 1))

abbrev pub invariant-weight_of_patterns-loop-pat : goal.invariant-weight_of_patterns-loop-pat
invariant-weight_of_patterns-loop-pat l =
    (l.so_far < 2 ^ 64) × (min (l.so_far + pats_weight (plain_pats (drop l.pat-index l.pats))) (2 ^ 64 - 1) ≡ min (pats_weight (plain_pats l.pats)) (2 ^ 64 - 1))

abbrev pub invariant-weight_of_pattern_segments-loop-segment : goal.invariant-weight_of_pattern_segments-loop-segment
invariant-weight_of_pattern_segments-loop-segment l =
    (l.so_far < 2 ^ 64) × (min (l.so_far + pat_segments_weight (plain_pat_segments (drop l.segment-index l.segments))) (2 ^ 64 - 1) ≡ min (pat_segments_weight (plain_pat_segments l.segments)) (2 ^ 64 - 1))

use Rattle.std.proofs.Common.{◌≡◌, drop}
use Rattle.std.specs.List.{fold}
use Rattle.ef_forms.specs.declared.expr.Clause.{out-Clause}
use Rattle.ef_forms.specs.declared.expr.CatchClause.{out-CatchClause}
use Rattle.ef_forms.specs.Extents.{with_node}
use Rattle.ef_forms.specs.Nodes.{all_nodes, catch_nodes, behind, clause_nodes, field_nodes, guard_nodes, qualifier_nodes, segment_nodes, step_nodes}
use Rattle.ef_forms.specs.Plain.{plain_all, plain_catches, plain_clauses, plain_fields, plain_guard, plain_qualifiers, plain_segments, plain_steps}
use Rattle.ef_forms.proofs.measure.+measure.Given as goal

abbrev pub invariant-measure_all-loop-expr : goal.invariant-measure_all-loop-expr
invariant-measure_all-loop-expr l =
    fold with_node l.so_far (all_nodes l.role l.level (plain_all (drop l.expr-index l.exprs))) ≡ fold with_node l.initial.so_far (all_nodes l.role l.level (plain_all l.exprs))

abbrev pub invariant-measure_clauses-loop-clause : goal.invariant-measure_clauses-loop-clause
invariant-measure_clauses-loop-clause l =
    fold with_node l.so_far (clause_nodes l.level (plain_clauses (drop l.clause-index l.clauses))) ≡ fold with_node l.initial.so_far (clause_nodes l.level (plain_clauses l.clauses))

abbrev pub invariant-measure_clause-loop-tests : goal.invariant-measure_clause-loop-tests
invariant-measure_clause-loop-tests l =
    fold with_node l.so_far (guard_nodes l.level (plain_guard (drop l.tests-index (out-Clause l.clause).guard.items))) ≡ fold with_node l.initial.so_far (guard_nodes l.level (plain_guard (out-Clause l.clause).guard.items))

abbrev pub invariant-measure_catches-loop-catch : goal.invariant-measure_catches-loop-catch
invariant-measure_catches-loop-catch l =
    fold with_node l.so_far (catch_nodes l.level (plain_catches (drop l.catch-index l.catches))) ≡ fold with_node l.initial.so_far (catch_nodes l.level (plain_catches l.catches))

abbrev pub invariant-measure_catch-loop-tests : goal.invariant-measure_catch-loop-tests
invariant-measure_catch-loop-tests l =
    fold with_node l.so_far (guard_nodes l.level (plain_guard (drop l.tests-index (out-CatchClause l.catch).guard.items))) ≡ fold with_node l.initial.so_far (guard_nodes l.level (plain_guard (out-CatchClause l.catch).guard.items))

abbrev pub invariant-measure_segments-loop-segment : goal.invariant-measure_segments-loop-segment
invariant-measure_segments-loop-segment l =
    fold with_node l.so_far (segment_nodes l.role l.level (plain_segments (drop l.segment-index l.segments))) ≡ fold with_node l.initial.so_far (segment_nodes l.role l.level (plain_segments l.segments))

abbrev pub invariant-measure_fields-loop-field : goal.invariant-measure_fields-loop-field
invariant-measure_fields-loop-field l =
    fold with_node l.so_far (field_nodes l.role l.level (plain_fields (drop l.field-index l.fields))) ≡ fold with_node l.initial.so_far (field_nodes l.role l.level (plain_fields l.fields))

abbrev pub invariant-measure_steps-loop-step : goal.invariant-measure_steps-loop-step
invariant-measure_steps-loop-step l =
    fold with_node l.so_far (step_nodes l.level (plain_steps (drop l.step-index l.steps))) ≡ fold with_node l.initial.so_far (step_nodes l.initial.level (plain_steps l.steps))

abbrev pub invariant-measure_qualifiers-loop-qualifier : goal.invariant-measure_qualifiers-loop-qualifier
invariant-measure_qualifiers-loop-qualifier l =
    (fold with_node l.so_far (qualifier_nodes l.inner (plain_qualifiers (drop l.qualifier-index l.qualifiers))) ≡ fold with_node l.initial.so_far (qualifier_nodes l.initial.inner (plain_qualifiers l.qualifiers)))
    × (behind l.inner (plain_qualifiers (drop l.qualifier-index l.qualifiers)) ≡ behind l.initial.inner (plain_qualifiers l.qualifiers))

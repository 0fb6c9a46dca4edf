use Rattle.std.proofs.Common.{◌≡◌, ◌++◌, drop}
use Rattle.ef_forms.specs.declared.expr.Clause.{out-Clause}
use Rattle.ef_forms.specs.declared.expr.CatchClause.{out-CatchClause}
use Rattle.ef_forms.specs.Nodes.{all_nodes, catch_nodes, behind, clause_nodes, field_nodes, guard_nodes, qualifier_nodes, segment_nodes, step_nodes}
use Rattle.ef_forms.specs.Plain.{plain_all, plain_catches, plain_clauses, plain_fields, plain_guard, plain_qualifiers, plain_segments, plain_steps}
use Rattle.ef_forms.specs.Shown.{shown}
use Rattle.ef_forms.proofs.walk.+walk.Given as goal

abbrev pub invariant-all_nodes-loop-expr : goal.invariant-all_nodes-loop-expr
invariant-all_nodes-loop-expr l =
    shown l.into.items ++ all_nodes l.role l.level (plain_all (drop l.expr-index l.exprs)) ≡ shown l.initial.into.items ++ all_nodes l.role l.level (plain_all l.exprs)

abbrev pub invariant-clause_nodes-loop-clause : goal.invariant-clause_nodes-loop-clause
invariant-clause_nodes-loop-clause l =
    shown l.into.items ++ clause_nodes l.level (plain_clauses (drop l.clause-index l.clauses)) ≡ shown l.initial.into.items ++ clause_nodes l.level (plain_clauses l.clauses)

abbrev pub invariant-one_clause_nodes-loop-tests : goal.invariant-one_clause_nodes-loop-tests
invariant-one_clause_nodes-loop-tests l =
    shown l.into.items ++ guard_nodes l.level (plain_guard (drop l.tests-index (out-Clause l.clause).guard.items)) ≡ shown l.initial.into.items ++ guard_nodes l.level (plain_guard (out-Clause l.clause).guard.items)

abbrev pub invariant-catch_nodes-loop-catch : goal.invariant-catch_nodes-loop-catch
invariant-catch_nodes-loop-catch l =
    shown l.into.items ++ catch_nodes l.level (plain_catches (drop l.catch-index l.catches)) ≡ shown l.initial.into.items ++ catch_nodes l.level (plain_catches l.catches)

abbrev pub invariant-one_catch_nodes-loop-tests : goal.invariant-one_catch_nodes-loop-tests
invariant-one_catch_nodes-loop-tests l =
    shown l.into.items ++ guard_nodes l.level (plain_guard (drop l.tests-index (out-CatchClause l.catch).guard.items)) ≡ shown l.initial.into.items ++ guard_nodes l.level (plain_guard (out-CatchClause l.catch).guard.items)

abbrev pub invariant-segment_nodes-loop-segment : goal.invariant-segment_nodes-loop-segment
invariant-segment_nodes-loop-segment l =
    shown l.into.items ++ segment_nodes l.role l.level (plain_segments (drop l.segment-index l.segments)) ≡ shown l.initial.into.items ++ segment_nodes l.role l.level (plain_segments l.segments)

abbrev pub invariant-field_nodes-loop-field : goal.invariant-field_nodes-loop-field
invariant-field_nodes-loop-field l =
    shown l.into.items ++ field_nodes l.role l.level (plain_fields (drop l.field-index l.fields)) ≡ shown l.initial.into.items ++ field_nodes l.role l.level (plain_fields l.fields)

abbrev pub invariant-step_nodes-loop-step : goal.invariant-step_nodes-loop-step
invariant-step_nodes-loop-step l =
    shown l.into.items ++ step_nodes l.level (plain_steps (drop l.step-index l.steps)) ≡ shown l.initial.into.items ++ step_nodes l.initial.level (plain_steps l.steps)

abbrev pub invariant-qualifier_nodes-loop-qualifier : goal.invariant-qualifier_nodes-loop-qualifier
invariant-qualifier_nodes-loop-qualifier l =
    (shown l.into.items ++ qualifier_nodes l.inner (plain_qualifiers (drop l.qualifier-index l.qualifiers)) ≡ shown l.initial.into.items ++ qualifier_nodes l.initial.inner (plain_qualifiers l.qualifiers))
    × (behind l.inner (plain_qualifiers (drop l.qualifier-index l.qualifiers)) ≡ behind l.initial.inner (plain_qualifiers l.qualifiers))

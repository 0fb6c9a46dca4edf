use Rattle.ef_forms.specs.declared.expr.Clause.{out-Clause}
use Rattle.ef_scope.proofs.Patterns.{ClausesLeft, PatternsLeft, TestsLeft}
use Rattle.ef_scope.proofs.pattern.+pattern.Given as goal

abbrev pub invariant-check_patterns-loop-pattern : goal.invariant-check_patterns-loop-pattern
invariant-check_patterns-loop-pattern l = PatternsLeft l.names l.patterns l.pattern-index l.state l.initial.found l.found l.initial.bound.items l.bound.items

abbrev pub invariant-check_clauses-loop-clause : goal.invariant-check_clauses-loop-clause
invariant-check_clauses-loop-clause l = ClausesLeft l.names l.clauses l.clause-index l.state l.initial.found l.found l.initial.bound.items l.bound.items

abbrev pub invariant-check_guard-loop-tests : goal.invariant-check_guard-loop-tests
invariant-check_guard-loop-tests l = TestsLeft l.names (out-Clause l.clause).guard.items l.tests-index l.state l.initial.found l.found l.initial.bound.items l.bound.items

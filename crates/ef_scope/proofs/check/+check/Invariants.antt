use Rattle.ef_forms.specs.declared.expr.Clause.{out-Clause}
use Rattle.ef_scope.proofs.Beside.{BesideLeft}
use Rattle.ef_scope.proofs.Bodies.{BodyLeft}
use Rattle.ef_scope.proofs.Choices.{ChoicesLeft}
use Rattle.ef_scope.proofs.Guards.{GuardLeft}
use Rattle.ef_scope.proofs.check.+check.Given as goal

abbrev pub invariant-check_all-loop-expr : goal.invariant-check_all-loop-expr
invariant-check_all-loop-expr l = BesideLeft l.names l.exprs l.expr-index l.initial.state l.state l.others l.initial.found l.found

abbrev pub invariant-check_body-loop-expr : goal.invariant-check_body-loop-expr
invariant-check_body-loop-expr l = BodyLeft l.names l.body l.expr-index l.initial.state l.state l.initial.found l.found

abbrev pub invariant-check_clauses-loop-clause : goal.invariant-check_clauses-loop-clause
invariant-check_clauses-loop-clause l = ChoicesLeft l.names l.clauses l.rest l.clause-index l.fn.state l.state l.choices l.fn.found l.found

abbrev pub invariant-check_guard-loop-tests : goal.invariant-check_guard-loop-tests
invariant-check_guard-loop-tests l = GuardLeft l.names (out-Clause l.clause).guard.items l.tests-index l.initial.state l.state l.initial.found l.found

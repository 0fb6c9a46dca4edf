use Rattle.ef_front.proofs.Counted.{clauses_left}
use Rattle.ef_front.proofs.sizes.size_of_clauses.Given as goal

abbrev pub invariant-loop-clause : goal.invariant-loop-clause
invariant-loop-clause l = clauses_left l.clauses l.clause-index l.so_far

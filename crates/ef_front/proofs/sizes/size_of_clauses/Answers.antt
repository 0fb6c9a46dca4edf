use Rattle.ef_front.proofs.Counted.{clauses_more, clauses_end}
use Rattle.ef_front.proofs.sizes.size_of_clauses.Goals as goal

pub loop-clause-preserved : goal.loop-clause-preserved
loop-clause-preserved c =
    clauses_more c.args.clauses.now c.loop-clause.clause-index c.clause-item.result c.loop-clause.so_far c.size_of_clause.result c.joined-so_far.result c.loop-clause-test.true c.clause-item.is c.size_of_clause.ensures c.joined-so_far.ensures c.loop-clause.invariant

pub returns : goal.returns
returns c = clauses_end c.args.clauses.now c.loop-clause.clause-index c.loop-clause.so_far c.loop-clause-test.false c.loop-clause.invariant

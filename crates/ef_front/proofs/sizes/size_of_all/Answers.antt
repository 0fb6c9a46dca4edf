use Rattle.ef_front.proofs.Counted.{all_more, all_end}
use Rattle.ef_front.proofs.sizes.size_of_all.Goals as goal

pub loop-expr-preserved : goal.loop-expr-preserved
loop-expr-preserved c =
    all_more c.args.exprs.now c.loop-expr.expr-index c.expr-item.result c.loop-expr.so_far c.size_of.result c.joined-so_far.result c.loop-expr-test.true c.expr-item.is c.size_of.ensures c.joined-so_far.ensures c.loop-expr.invariant

pub returns : goal.returns
returns c = all_end c.args.exprs.now c.loop-expr.expr-index c.loop-expr.so_far c.loop-expr-test.false c.loop-expr.invariant

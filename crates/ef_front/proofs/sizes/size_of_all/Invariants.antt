use Rattle.ef_front.proofs.Counted.{all_left}
use Rattle.ef_front.proofs.sizes.size_of_all.Given as goal

abbrev pub invariant-loop-expr : goal.invariant-loop-expr
invariant-loop-expr l = all_left l.exprs l.expr-index l.so_far

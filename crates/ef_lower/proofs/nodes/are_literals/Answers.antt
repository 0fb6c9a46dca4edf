use Rattle.std.proofs.Common.{◌≡◌, true}
use Rattle.ef_lower.proofs.Literals.{literal_at, literals_more}
use Rattle.ef_lower.proofs.nodes.are_literals.Goals as goal

pub returns-then-not-is_literal : goal.returns-then-not-is_literal
returns-then-not-is_literal c = (
  λ h. absurd cc,
  λ all. let yes : c.is_literal.result ≡ true = c.is_literal.ensures.1 (literal_at c.args.exprs.now c.loop-expr.expr-index c.expr-item.result c.loop-expr-test.true c.expr-item.is all) in absurd cc,
)

pub loop-expr-preserved : goal.loop-expr-preserved
loop-expr-preserved c =
    literals_more c.args.exprs.now c.loop-expr.expr-index c.expr-item.result c.loop-expr-test.true c.expr-item.is c.loop-expr.invariant (c.is_literal.ensures.0 c.if-not-is_literal.false)

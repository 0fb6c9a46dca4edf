use Rattle.std.proofs.Common.{◌≡◌, true}
use Rattle.ef_lowpat.proofs.Literals.{literal_at, literals_more}
use Rattle.ef_lowpat.proofs.nodes.are_literals.Goals as goal

pub returns-then-not-is_literal : goal.returns-then-not-is_literal
returns-then-not-is_literal c = (
  λ h. absurd cc,
  λ all. let yes : c.is_literal.result ≡ true = c.is_literal.ensures.1 (literal_at c.args.pats.now c.loop-pat.pat-index c.pat-item.result c.loop-pat-test.true c.pat-item.is all) in absurd cc,
)

pub loop-pat-preserved : goal.loop-pat-preserved
loop-pat-preserved c =
    literals_more c.args.pats.now c.loop-pat.pat-index c.pat-item.result c.loop-pat-test.true c.pat-item.is c.loop-pat.invariant (c.is_literal.ensures.0 c.if-not-is_literal.false)

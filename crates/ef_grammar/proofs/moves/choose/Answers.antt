use Rattle.ef_grammar.proofs.Passing.{pass_at}
use Rattle.ef_grammar.proofs.moves.choose.Goals as goal

pub returns-then-is_in-clause-passed : goal.returns-then-is_in-clause-passed
returns-then-is_in-clause-passed g c =
    pass_at g.G.Grammar.table c.rows-row-items.result.now c.loop-row.row-index c.row-item.result c.rows-row-items.ensures.passed c.loop-row-test.true c.row-item.result c.row-item.is

use Rattle.std.proofs.Common.{◌≡◌, map, drop}
use Rattle.ef_grammar.specs.Table.{chosen, opened_rows}
use Rattle.ef_grammar.specs.Shown.{row}
use Rattle.ef_grammar.proofs.moves.choose.Given as goal

abbrev pub invariant-loop-row : goal.invariant-loop-row
invariant-loop-row g l = chosen (map row (drop l.row-index l.row-items)) l.class ≡ chosen (opened_rows g.G.Grammar.table l.fn.rule) l.class

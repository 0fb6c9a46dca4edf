use Rattle.std.proofs.Common.{length}
use Rattle.ef_grammar.specs.Table.{Table}
use Rattle.ef_grammar.specs.Reads.{Over}
use Rattle.ef_grammar.specs.Shown.{symbols, Passes}
use Rattle.ef_grammar.proofs.symbols.next.Given as goal

abbrev pub invariant-pieces : goal.invariant-pieces
invariant-pieces g l = (t : Table _ _) → Passes t l.initial.symbols → Over t l.class (symbols l.initial.symbols) (symbols l.symbols) × Passes t l.symbols

abbrev pub decreases-pieces : goal.decreases-pieces
decreases-pieces g l = length l.symbols.behind.items

use Rattle.std.proofs.Common.{[]}
use Rattle.ef_grammar.specs.Grammar.{one}
use Rattle.ef_grammar.specs.Table.{weight}
use Rattle.ef_grammar.specs.Reads.{Fits, Alike}
use Rattle.ef_grammar.specs.Shown.{symbols, Passes}
use Rattle.ef_grammar.proofs.moves.advance.Given as goal

abbrev pub invariant-moves : goal.invariant-moves
invariant-moves g l =
    let t = g.G.Grammar in
    let of = t.grammar l.fn.language in
    (Fits t.table (symbols l.symbols) (one (of.look []))
    × Alike of l.class (symbols l.fn.symbols) (t.value l.fn.state) (symbols l.symbols) (t.value l.state))
    × Passes t.table l.symbols

abbrev pub decreases-moves : goal.decreases-moves
decreases-moves g l = weight g.G.Grammar.table (symbols l.symbols)

use Rattle.std.proofs.Common.{◌-◌, length}
use Rattle.ef_grammar.specs.Shown.{symbols, Passes}
use Rattle.ef_grammar.proofs.Runs.{At}
use Rattle.ef_grammar.proofs.machine.parse.Given as goal

abbrev pub invariant-tokens : goal.invariant-tokens
invariant-tokens g l =
    let t = g.G.Grammar in
    At (t.grammar l.fn.language) t.table l.fn.start (t.value l.fn.state) l.tokens l.at (symbols l.symbols) (t.value l.state) × Passes t.table l.symbols

abbrev pub decreases-tokens : goal.decreases-tokens
decreases-tokens g l = length l.tokens - l.at

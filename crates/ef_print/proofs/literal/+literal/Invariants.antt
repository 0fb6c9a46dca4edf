use Rattle.ef_print.proofs.Lists.{Goes}
use Rattle.ef_print.proofs.Parts.{more_lits}
use Rattle.ef_print.proofs.literal.+literal.Given as goal

abbrev pub invariant-print_lits-loop-literal : goal.invariant-print_lits-loop-literal
invariant-print_lits-loop-literal g l = Goes (more_lits l.names) (g.G.Sink.seen l.initial.sink) l.initial.so_far l.rest l.literal-index (g.G.Sink.seen l.sink) l.so_far

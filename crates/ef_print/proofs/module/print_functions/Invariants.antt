use Rattle.ef_print.proofs.Lists.{Goes}
use Rattle.ef_print.proofs.Parts.{functions}
use Rattle.ef_print.proofs.module.print_functions.Given as goal

abbrev pub invariant-loop-def : goal.invariant-loop-def
invariant-loop-def g l = Goes (functions l.names) (g.G.Sink.seen l.fn.sink) l.fn.so_far l.defs l.def-index (g.G.Sink.seen l.sink) l.so_far

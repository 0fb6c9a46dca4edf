use Rattle.ef_print.proofs.Lists.{Goes}
use Rattle.ef_print.proofs.Parts.{more_fnames}
use Rattle.ef_print.proofs.functions.print_fname_list.Given as goal

abbrev pub invariant-loop-function : goal.invariant-loop-function
invariant-loop-function g l = Goes (more_fnames l.names) (g.G.Sink.seen l.initial.sink) l.initial.so_far l.rest l.function-index (g.G.Sink.seen l.sink) l.so_far

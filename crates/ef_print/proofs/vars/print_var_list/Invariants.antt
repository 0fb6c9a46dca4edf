use Rattle.ef_print.proofs.Lists.{Goes}
use Rattle.ef_print.proofs.Parts.{more_vars}
use Rattle.ef_print.proofs.vars.print_var_list.Given as goal

abbrev pub invariant-loop-var : goal.invariant-loop-var
invariant-loop-var g l = Goes (more_vars l.names) (g.G.Sink.seen l.initial.sink) l.initial.so_far l.rest l.var-index (g.G.Sink.seen l.sink) l.so_far

use Rattle.ef_print.proofs.Lists.{Goes}
use Rattle.ef_print.proofs.Parts.{more_attributes}
use Rattle.ef_print.proofs.module.print_attribute_list.Given as goal

abbrev pub invariant-loop-attribute : goal.invariant-loop-attribute
invariant-loop-attribute g l = Goes (more_attributes l.names) (g.G.Sink.seen l.initial.sink) l.initial.so_far l.rest l.attribute-index (g.G.Sink.seen l.sink) l.so_far

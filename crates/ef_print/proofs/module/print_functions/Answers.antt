use Rattle.ef_print.proofs.Lists.{goes_more, goes_end, named_at}
use Rattle.ef_print.proofs.Parts.{functions}
use Rattle.ef_print.proofs.Written.{◌▸◌}
use Rattle.ef_print.proofs.module.print_functions.Goals as goal

pub print_def-so_far-requires-clause-named : goal.print_def-so_far-requires-clause-named
print_def-so_far-requires-clause-named g c =
    named_at (functions c.args.names.now) c.args.defs.now _ _ c.requires.named c.loop-def-test.true c.def-item.is

pub loop-def-preserved : goal.loop-def-preserved
loop-def-preserved g c =
    goes_more c.loop-def.invariant _ c.loop-def-test.true c.def-item.is
    ((c.print_break-so_far.ensures _) ▸ c.print_def-so_far.ensures.prints) c.print_def-so_far.ensures.is_open

pub returns-clause-prints : goal.returns-clause-prints
returns-clause-prints g c = goes_end c.loop-def.invariant c.loop-def-test.false

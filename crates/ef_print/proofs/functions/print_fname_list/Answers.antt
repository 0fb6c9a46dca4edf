use Rattle.std.proofs.Common.{ap}
use Rattle.ef_core.specs.Layout.{fname_list}
use Rattle.ef_print.proofs.Lists.{goes_more, goes_end, from_first, read_at}
use Rattle.ef_print.proofs.Written.{◌▸◌, prints_as}
use Rattle.ef_print.proofs.functions.print_fname_list.Goals as goal

pub loop-function-preserved : goal.loop-function-preserved
loop-function-preserved g c =
    goes_more c.loop-function.invariant _ c.loop-function-test.true (read_at _ _ _ c.loop-function-test.true)
    (c.print_symbol-so_far.ensures.prints ▸ c.print_fname-so_far-in-loop-function.ensures.prints) c.print_fname-so_far-in-loop-function.ensures.is_open

pub returns-after-loop-function-clause-prints : goal.returns-after-loop-function-clause-prints
returns-after-loop-function-clause-prints g c =
    let some = c.in-len1-up.len_at_least in
    prints_as (ap (fname_list c.args.names.now) (from_first _ _ some (read_at _ 0 _ some)))
    (c.print_fname-so_far.ensures.prints ▸ goes_end c.loop-function.invariant c.loop-function-test.false)

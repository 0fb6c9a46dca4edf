use Rattle.std.proofs.Common.{ap}
use Rattle.ef_core.specs.Layout.{var_list}
use Rattle.ef_print.proofs.Lists.{goes_more, goes_end, from_first, read_at}
use Rattle.ef_print.proofs.Written.{◌▸◌, prints_as}
use Rattle.ef_print.proofs.vars.print_var_list.Goals as goal

pub loop-var-preserved : goal.loop-var-preserved
loop-var-preserved g c =
    goes_more c.loop-var.invariant _ c.loop-var-test.true (read_at _ _ _ c.loop-var-test.true)
    (c.print_symbol-so_far.ensures.prints ▸ c.print_var-so_far-in-loop-var.ensures.prints) c.print_var-so_far-in-loop-var.ensures.is_open

pub returns-after-loop-var-clause-prints : goal.returns-after-loop-var-clause-prints
returns-after-loop-var-clause-prints g c =
    let some = c.in-len1-up.len_at_least in
    prints_as (ap (var_list c.args.names.now) (from_first _ _ some (read_at _ 0 _ some)))
    (c.print_var-so_far.ensures.prints ▸ goes_end c.loop-var.invariant c.loop-var-test.false)

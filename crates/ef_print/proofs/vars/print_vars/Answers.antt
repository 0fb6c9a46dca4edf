use Rattle.ef_print.proofs.Parts.{many_vars}
use Rattle.ef_print.proofs.Written.{◌▸◌, prints_as}
use Rattle.ef_print.proofs.vars.print_vars.Goals as goal

pub returns-clause-prints : goal.returns-clause-prints
returns-clause-prints g c =
    prints_as (many_vars c.args.names.now c.args.vars.now (λ one. c.if-vars-eq1.false one))
    (c.print_symbol-so_far.ensures.prints ▸ c.print_var_list-so_far.ensures.prints ▸ c.print_symbol.ensures.prints)

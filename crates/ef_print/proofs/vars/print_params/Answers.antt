use Rattle.ef_print.proofs.Written.{◌▸◌}
use Rattle.ef_print.proofs.vars.print_params.Goals as goal

pub returns-clause-prints : goal.returns-clause-prints
returns-clause-prints g c =
    c.print_word-so_far.ensures.prints ▸ (c.print_symbol-so_far.ensures.prints ▸ c.print_var_list-so_far.ensures.prints
    ▸ c.print_symbol-so_far-2.ensures.prints) ▸ c.print_symbol.ensures.prints

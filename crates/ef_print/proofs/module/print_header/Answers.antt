use Rattle.ef_print.proofs.Written.{◌▸◌}
use Rattle.ef_print.proofs.module.print_header.Goals as goal

pub returns-clause-prints : goal.returns-clause-prints
returns-clause-prints g c =
    rw (← c.deref.ensures.value)
    (c.print_word-so_far.ensures.prints ▸ c.print_atom-so_far.ensures.prints ▸ c.print_symbol-so_far.ensures.prints
    ▸ c.print_fname_list-so_far.ensures.prints ▸ c.print_symbol.ensures.prints)

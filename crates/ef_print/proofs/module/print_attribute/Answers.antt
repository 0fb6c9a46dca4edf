use Rattle.ef_print.proofs.Written.{◌▸◌}
use Rattle.ef_print.proofs.module.print_attribute.Goals as goal

pub returns-clause-prints : goal.returns-clause-prints
returns-clause-prints g c =
    c.print_atom-so_far.ensures.prints ▸ c.print_symbol-so_far.ensures.prints ▸ c.print_lit.ensures.prints

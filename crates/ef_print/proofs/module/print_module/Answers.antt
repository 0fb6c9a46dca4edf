use Rattle.ef_print.proofs.Written.{◌▸◌}
use Rattle.ef_print.proofs.module.print_module.Goals as goal

pub returns-clause-prints : goal.returns-clause-prints
returns-clause-prints g c =
    rw (← c.deref.ensures.value)
    (c.print_header-so_far.ensures.prints ▸ c.print_attributes-so_far.ensures.prints ▸ c.print_functions-so_far.ensures.prints
    ▸ (c.print_break-so_far.ensures _) ▸ c.print_word.ensures.prints)

use Rattle.std.proofs.Common.{ap, to_z-of_z}
use Rattle.ef_core.specs.Plain.{plain_lit}
use Rattle.ef_print.specs.Segments.{form_pieces}
use Rattle.ef_print.proofs.Written.{◌▸◌, prints_as}
use Rattle.ef_print.proofs.segment.print_form.Goals as goal

pub returns-clause-prints : goal.returns-clause-prints
returns-clause-prints g c =
    prints_as (ap (λ n. form_pieces c.args.names.now n c.args.kind (plain_lit c.args.flags.now)) (to_z-of_z c.ranges.unit))
    (c.print_symbol-so_far.ensures.prints ▸ c.print_int-so_far.ensures.prints ▸ c.print_symbol-so_far-2.ensures.prints
    ▸ c.print_atom-so_far.ensures.prints ▸ c.print_symbol-so_far-3.ensures.prints ▸ c.print_lit.ensures.prints)

use Rattle.std.proofs.Common.{◌≡◌, ◌∙◌, ◌∷◌, [], ◌++◌, ap, arith, to_z, of_z}
use mir.Syntax.{w128}
use Rattle.std.proofs.lemmas.Int.{ints}
use Rattle.ef_core.specs.declared.lexeme.Symbol.TheVariants.{Slash}
use Rattle.ef_core.specs.Layout.{atom_pieces}
use Rattle.ef_core.specs.Lexeme.{Int}
use Rattle.ef_core.specs.Pieces.{Put, put_sym}
use Rattle.ef_print.proofs.Written.{◌▸◌, prints_as}
use Rattle.ef_print.proofs.functions.print_fname.Goals as goal

pub returns-clause-prints : goal.returns-clause-prints
returns-clause-prints g c =
    let int_is : to_z w128 (of_z w128 c.from.result) ≡ c.from.result = omega (arith, ints) in
    prints_as (ap (λ n. atom_pieces c.args.names.now c.args.function.name ++ (put_sym Slash ++ Put (Int n) ∷ [])) (int_is ∙ c.from.ensures))
    (c.print_atom-so_far.ensures.prints ▸ c.print_symbol-so_far.ensures.prints ▸ c.print_int.ensures.prints)

-- The pieces of a segment behind its size.
use Rattle.std.specs.Prelude.{ℤ, List, [], ◌∷◌, ◌++◌}
use Rattle.ef_base.specs.declared.name.Name.{Name}
use Rattle.ef_base.specs.Texts.{Texts}
use Rattle.ef_core.specs.Layout.{atom_pieces, lit_pieces}
use Rattle.ef_core.specs.declared.lexeme.Symbol.TheVariants.{Comma}
use Rattle.ef_core.specs.Lexeme.{Int}
use Rattle.ef_core.specs.Pieces.{Piece, Put, put_sym}
use Rattle.ef_core.specs.Tree.{LitTree}

-- its unit, its kind and its flags, each with a comma before it
abbrev pub form_pieces : Texts → ℤ → Name → LitTree → List Piece
form_pieces names unit kind flags =
    put_sym Comma ++ (Put (Int unit) ∷ [] ++ (put_sym Comma ++ (atom_pieces names kind ++ (put_sym Comma ++ lit_pieces names flags))))

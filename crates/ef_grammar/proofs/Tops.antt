-- The next symbol.
use Rattle.std.proofs.Common.{◌≡◌, List, [], ◌∷◌, ◌++◌, refl, ap, ◌∙◌, map, reverse, Option}
use Rattle.std.proofs.lemmas.List.{reverse-append, append_assoc}
use Rattle.ef_grammar.specs.declared.row.Piece.{Piece}
use Rattle.ef_grammar.specs.Shown.{at_last, joined, symbol}
use Rattle.ef_grammar.specs.declared.row.Symbol.{Symbol as TheSymbol}

pub joined_more : {R A : Type 0} (ps : List (Piece R A)) (p : Piece R A) → joined (reverse (ps ++ p ∷ [])) ≡ map symbol p.symbols.now ++ joined (reverse ps)
joined_more ps p = ap joined (reverse-append ps (p ∷ []))

pub ruleset laws = (joined_more, append_assoc)

-- the last piece comes to the front
pub popped : {R A : Type 0} (front : List (TheSymbol R A)) (behind rest : List (Piece R A)) (p : Piece R A) (last : Option R) → front ≡ [] → behind ≡ rest ++ p ∷ []
    → map symbol front ++ joined (reverse behind) ++ at_last last ≡ map symbol p.symbols.now ++ joined (reverse rest) ++ at_last last
popped front behind rest p last e is =
    ap (λ z. map symbol z ++ joined (reverse behind) ++ at_last last) e ∙ ap (λ z. joined (reverse z) ++ at_last last) is
    ∙ ap (λ z. z ++ at_last last) (joined_more rest p)

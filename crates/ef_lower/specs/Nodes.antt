-- Nodes of values: what can be a literal is one.
use Rattle.std.specs.Prelude.{◌≡◌, ◌⊎◌, List, [], ◌∷◌, map}
use Rattle.ef_core.specs.Normal.{AreLits, IsLit}
use Rattle.ef_core.specs.Plain.{lits, trees}
use Rattle.ef_core.specs.Tree.{CoreTree, LitTree, lit, lit_list_to, list_to}

abbrev pub literal_values : List LitTree → List CoreTree
literal_values ls = map (λ l. lit l) ls

-- the values are literals and the node is one, or they aren't all literals
abbrev pub Joins : List CoreTree → (List LitTree → LitTree) → CoreTree → CoreTree → Type 0
Joins values literal node e = ((ls : List LitTree) × (values ≡ literal_values ls) × (e ≡ lit (literal ls))) ⊎ ((AreLits (trees values) → ⊥) × (e ≡ node))

-- values before a tail; without any, the tail stands for itself
abbrev pub JoinsTo : List CoreTree → CoreTree → CoreTree → Type 0
JoinsTo [] tail e = e ≡ tail
JoinsTo (v ∷ vs) tail e =
    ((ls : List LitTree) × (l : LitTree) × (v ∷ vs ≡ literal_values ls) × (tail ≡ lit l) × (e ≡ lit (lit_list_to (lits ls) l)))
    ⊎ ((AreLits (trees (v ∷ vs)) → IsLit tail → ⊥) × (e ≡ list_to (trees (v ∷ vs)) tail))

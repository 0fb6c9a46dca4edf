-- Stacks of items, the last one at the end in the program and first in the definitions.
use Rattle.std.proofs.Common.{◌≡◌, List, [], ◌∷◌, ◌++◌, refl, ap, ◌∙◌, map, reverse}
use Rattle.std.proofs.lemmas.List.{reverse-append}
use Rattle.ef_cond.specs.declared.value.Item.{Item}
use Rattle.ef_cond.specs.Values.{item_of, stack}

map_more : {X Y : Type 0} (f : X → Y) (xs : List X) (x : X) → map f (xs ++ x ∷ []) ≡ map f xs ++ f x ∷ []
map_more f [] x = refl
map_more f (y ∷ xs) x = ap (λ z. f y ∷ z) (map_more f xs x)

pub stack_more : (xs : List Item) (x : Item) → stack (xs ++ x ∷ []) ≡ item_of x ∷ stack xs
stack_more xs x = ap reverse (map_more item_of xs x) ∙ reverse-append (map item_of xs) (item_of x ∷ [])

pub ruleset laws = (stack_more)

-- A body that its test lowers.
use Rattle.std.specs.Prelude.{List, [], ◌∷◌, pos}
use Rattle.ef_base.specs.declared.name.Name.{Name}
use Rattle.ef_base.specs.declared.fault.Place.{Place}
use Rattle.ef_forms.specs.Plain.{trees}
use Rattle.ef_forms.specs.Tree.{Tree, tree, int, var, tuple, matching}

-- `X = 1, {X, Y} = {1, 2}`
abbrev pub body_of : Place → Name → Name → List Tree
body_of p x y =
    tree p (matching (tree p (var x)) (tree p (int (pos 1))))
    ∷ tree p (matching (tree p (tuple (trees (tree p (var x) ∷ tree p (var y) ∷ [])))) (tree p (tuple (trees (tree p (int (pos 1)) ∷ tree p (int (pos 2)) ∷ [])))))
    ∷ []

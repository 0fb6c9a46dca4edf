-- Parameters that are the names of the one clause of a function.
use Rattle.std.specs.Prelude.{◌≡◌, List, [], ◌∷◌, ◌++◌}
use Rattle.ef_core.specs.declared.env.Bind.{Bind}
use Rattle.ef_core.specs.declared.literal.CoreVar.{CoreVar}
use Rattle.ef_core.specs.Env.{NamesDiffer, bind}
use Rattle.ef_forms.specs.declared.expr.Clause.{Clause, out-Clause}
use Rattle.ef_forms.specs.Plain.{plain_all}
use Rattle.ef_forms.specs.Tree.{Tree, Trees, tree, var, any, end, more}

-- a variable or `_`
abbrev pub IsParameter : Tree → Type 0
IsParameter (tree p (var n)) = Unit {0}
IsParameter (tree p any) = Unit {0}
IsParameter _ = ⊥

abbrev pub AreParameters : Trees → Type 0
AreParameters end = Unit {0}
AreParameters (more e es) = IsParameter e × AreParameters es

-- a variable has a name, and `_` has none
abbrev pub own_name : Tree → CoreVar → List Bind
own_name (tree p (var n)) y = bind n y ∷ []
own_name _ y = []

-- the names, each with the variable at its place
abbrev pub own_names : Trees → List CoreVar → List Bind
own_names (more e es) (y ∷ ys) = own_name e y ++ own_names es ys
own_names _ _ = []

-- there is one clause; its patterns are variables or `_`, and these are their names, which differ
abbrev pub HasOwnNames : List Clause → List CoreVar → List Bind → Type 0
HasOwnNames (c ∷ []) params env = AreParameters (plain_all (out-Clause c).patterns.items) × (env ≡ own_names (plain_all (out-Clause c).patterns.items) params) × NamesDiffer env
HasOwnNames _ params env = ⊥

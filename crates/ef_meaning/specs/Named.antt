-- The names of an environment, and those of a list, as sets.
use Rattle.std.specs.Prelude.{◌==◌, List, [], ◌∷◌}
use Rattle.std.specs.List.{list_any}
use Rattle.ef_base.specs.declared.name.Name.{Name}
use Rattle.ef_core.specs.declared.env.Bind.{Bind}
use Rattle.ef_forms.specs.Ways.{NameSet, no_names, one_name, union}

abbrev pub bound_names : List Bind → NameSet
bound_names [] = no_names
bound_names (b ∷ bs) = union (one_name b.name) (bound_names bs)

abbrev pub name_set : List Name → NameSet
name_set xs = λ y. list_any (λ (x : Name). x.index == y) xs

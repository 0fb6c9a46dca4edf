-- Modules without faults of names.
use Rattle.std.specs.Prelude.{◌≡◌, []}
use Rattle.ef_base.specs.Texts.{Texts}
use Rattle.ef_forms.specs.Tree.{FunctionTree, ModuleTree}
use Rattle.ef_forms.specs.Built.{Each, functions_in}
use Rattle.ef_forms.specs.Ways.{function_faults}

abbrev pub IsBoundFunction : Texts → FunctionTree → Type 0
IsBoundFunction all f = function_faults all f ≡ []

abbrev pub IsBoundModule : Texts → ModuleTree → Type 0
IsBoundModule all m = Each (IsBoundFunction all) (functions_in m.forms)

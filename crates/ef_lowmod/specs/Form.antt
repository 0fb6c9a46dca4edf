-- The form of a lowered module: its bodies are in let form, and no deeper than those of the source allow.
use Rattle.std.specs.Prelude.{◌≤◌, ◌*◌, List, [], ◌∷◌}
use Rattle.ef_core.specs.Depth.{depth}
use Rattle.ef_core.specs.Everywhere.{Each}
use Rattle.ef_core.specs.LetForm.{IsLetForm}
use Rattle.ef_core.specs.Tree.{CoreModuleTree, DefTree}
use Rattle.ef_forms.specs.Built.{functions_in}
use Rattle.ef_forms.specs.Depth.{function_depth}
use Rattle.ef_forms.specs.Tree.{FunctionTree, ModuleTree}
use Rattle.ef_lowpat.specs.Budgets.{depth_per_level}

-- every body is in let form
abbrev pub HasLetForm : CoreModuleTree → Type 0
HasLetForm t = Each (λ d. IsLetForm d.body) t.defs

-- the body of each function is no deeper than the levels of the function allow; what stands behind them is free
abbrev pub AreShallow : List FunctionTree → List DefTree → Type 0
AreShallow [] ds = Unit {0}
AreShallow (f ∷ fs) [] = ⊥
AreShallow (f ∷ fs) (d ∷ ds) = (depth d.body ≤ depth_per_level * function_depth f) × AreShallow fs ds

-- the definitions begin with those of the functions, in order
abbrev pub IsShallowFor : ModuleTree → CoreModuleTree → Type 0
IsShallowFor m t = AreShallow (functions_in m.forms) t.defs

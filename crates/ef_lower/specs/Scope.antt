-- Where lowered trees are in scope: wherever the variables of an environment and the functions of a module are.
use Rattle.std.specs.Prelude.{List, ◌++◌}
use Rattle.ef_base.specs.Texts.{Texts}
use Rattle.ef_core.specs.declared.env.Bind.{Bind}
use Rattle.ef_core.specs.declared.literal.CoreVar.{CoreVar}
use Rattle.ef_core.specs.declared.literal.FName.{FName}
use Rattle.ef_core.specs.Everywhere.{Each}
use Rattle.ef_core.specs.Plain.{StepTree, steps, trees}
use Rattle.ef_core.specs.Scope.{IsAmong, AllInScope, InScope, StepsInScope, steps_vars}
use Rattle.ef_core.specs.Tree.{CoreTree}
use Rattle.ef_forms.specs.declared.tables.FunctionName.{FunctionName}
use Rattle.ef_forms.specs.Built.{IsDefined}

abbrev pub core_name : FunctionName → FName
core_name f = record { name = f.name; arity = f.arity }

-- the variables of the environment are among these
abbrev pub HasVariables : List Bind → List CoreVar → Type 0
HasVariables env vs = Each (λ b. IsAmong vs b.var) env

-- the functions of the module are among these
abbrev pub HasFunctions : Texts → List FunctionName → List FName → Type 0
HasFunctions texts defined fs = (f : FunctionName) → IsDefined texts defined f → IsAmong fs (core_name f)

module _ (texts : Texts) (defined : List FunctionName) (env : List Bind) where
  abbrev pub IsInScope : CoreTree → Type 0
  IsInScope e = (vs : List CoreVar) (fs : List FName) → HasVariables env vs → HasFunctions texts defined fs → InScope vs fs e

  -- steps; and behind them values, and the variables of the environment afterwards
  abbrev pub AreInScope : List StepTree → List Bind → List CoreTree → Type 0
  AreInScope ss after values =
      (vs : List CoreVar) (fs : List FName) → HasVariables env vs → HasFunctions texts defined fs
      → StepsInScope vs fs (steps ss) × HasVariables after (steps_vars (steps ss) ++ vs) × AllInScope (steps_vars (steps ss) ++ vs) fs (trees values)

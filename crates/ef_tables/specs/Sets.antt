-- Sets of functions, as lists.
use Rattle.std.specs.Prelude.{ℕ, Bool, true, false, List, [], ◌∷◌, ◌++◌, ◌≡◌}
use Rattle.ef_base.specs.declared.name.Name.{Name}
use Rattle.ef_forms.specs.declared.tables.FunctionName.{FunctionName}
use Rattle.ef_forms.specs.Built.{IsAmong}

abbrev pub function : Name → ℕ → FunctionName
function name arity = record { name = name; arity = arity }

abbrev pub function_of : ℕ × ℕ → FunctionName
function_of key = record { name = record { index = key.0 }; arity = key.1 }

-- a new function goes last, and one that is there changes nothing
abbrev pub Inserts : FunctionName → List FunctionName → List FunctionName → Bool → Type 0
Inserts f old new true = (IsAmong f old → ⊥) × (new ≡ old ++ f ∷ [])
Inserts f old new false = IsAmong f old × (new ≡ old)

-- Faults that are added to a set.
use Rattle.std.specs.Prelude.{Bool, List, [], ◌∷◌, ◌++◌, ◌≡◌, cond}
use Rattle.ef_base.specs.declared.fault.Fault.{Fault}
use Rattle.ef_base.specs.Faults.{set_of}

-- these faults are added to the set
abbrev pub Adds : List Fault → List Fault → List Fault → Type 0
Adds added old new = (before : List Fault) → old ≡ set_of before → new ≡ set_of (before ++ added)

-- the fault, where it is one
abbrev pub where_ : Bool → Fault → List Fault
where_ b f = cond b (f ∷ []) []

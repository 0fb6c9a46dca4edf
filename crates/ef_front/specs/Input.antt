-- The faults and the texts of a file, which may be absent or too large.
use Rattle.std.specs.Prelude.{ℕ, ◌<◌, ◌≤◌, List, [], ◌∷◌, ◌≡◌, ◌⊎◌, Option, None, Some, length}
use Rattle.ef_base.specs.declared.fault.Fault.{Fault}
use Rattle.ef_base.specs.NamedFaults as fault
use Rattle.ef_io.specs.Sources.{Files}
use Rattle.ef_front.specs.Source.{HasFaults, IsTextFor}

-- the most bytes of a file
abbrev pub limit : ℕ
limit = 4194304

-- the faults of what was found at the path, sorted
abbrev pub HasFaultsAt : List ℕ → Option (List ℕ) → List Fault → Type 0
HasFaultsAt path None faults = faults ≡ fault.no_file path ∷ fault.no_module ∷ []
HasFaultsAt path (Some source) faults =
    ((limit < length source) × (faults ≡ fault.no_module ∷ fault.file_too_large ∷ []))
    ⊎ ((length source ≤ limit) × HasFaults source faults)

-- what is found at a path: where the map is told, what it says
abbrev pub Finds : Option Files → List ℕ → Option (List ℕ) → Type 0
Finds None path found = Unit {0}
Finds (Some files) path found = files path ≡ found

-- the faults of the file at a path
pub record AreFaults (files : Option Files) (path : List ℕ) (faults : List Fault) : Type 0 where
  pub content : Option (List ℕ)
  pub found : Finds files path content
  pub are : HasFaultsAt path content faults

-- a text that may be written for the file at a path, which has no faults
pub record MayBeWritten (files : Option Files) (path text : List ℕ) : Type 0 where
  pub source : List ℕ
  pub found : Finds files path (Some source)
  pub small : length source ≤ limit
  pub faultless : HasFaults source []
  pub fits : IsTextFor source text

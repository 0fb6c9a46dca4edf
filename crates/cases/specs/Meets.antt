-- When a run comes to what its case wants.
use Rattle.std.specs.Prelude.{ℕ, ◌≤◌, ◌≡◌, ◌↔◌, List, take, length, string_bytes, Option, None, Some, IsSome}
use Rattle.ef_io.specs.declared.status.Status.{Status}
use Rattle.ef_io.specs.declared.status.Status.TheVariants as status
use Rattle.cases.specs.declared.case.Text.{Text}
use Rattle.cases.specs.declared.case.Wanted.{Wanted}
use Rattle.cases.specs.declared.case.Wanted.TheVariants.{Any, Whole, Begun}

-- these bytes begin so
abbrev pub BeginsWith : List ℕ → List ℕ → Type 0
BeginsWith front bytes = (length front ≤ length bytes) × (take (length front) bytes ≡ front)

-- what was created under this status is what is wanted
abbrev pub IsWanted : Wanted → Status → Option Text → Type 0
IsWanted Any came made = IsSome made ↔ (came ≡ status.Written)
IsWanted (Whole t) _ (Some made) = (string_bytes made.path ≡ string_bytes t.path) × (made.bytes.items ≡ t.bytes.items)
IsWanted (Begun t) _ (Some made) = (string_bytes made.path ≡ string_bytes t.path) × BeginsWith t.bytes.items made.bytes.items
IsWanted (Whole _) _ None = ⊥
IsWanted (Begun _) _ None = ⊥

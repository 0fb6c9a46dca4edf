-- How variables are drawn.
use Rattle.std.specs.Prelude.{ℕ, zero, suc, ◌+◌, ◌<◌, ◌≤◌, ◌≡◌, Option, Some, None, List, [], ◌∷◌}
use Rattle.ef_core.specs.declared.literal.CoreVar.{CoreVar}
use Rattle.ef_core.specs.declared.literal.CoreVar.TheVariants.{Numbered, Named}

abbrev pub most_variables : ℕ
most_variables = 4294967295

-- the variable of this number; none exactly where all were drawn
abbrev pub Draws : ℕ → ℕ → Option CoreVar → Type 0
Draws old new (Some v) = (v ≡ Numbered old) × (new ≡ old + 1) × (old < most_variables)
Draws old new None = (old ≡ most_variables) × (new ≡ old)

-- so many variables were drawn at most
abbrev pub DrawsAtMost : ℕ → ℕ → ℕ → Type 0
DrawsAtMost units old new = (old ≤ new) × (new ≤ old + units)

-- the variable was drawn in between
abbrev pub IsDrawnIn : ℕ → ℕ → CoreVar → Type 0
IsDrawnIn old new (Numbered i) = (old ≤ i) × (i < new)
IsDrawnIn old new (Named n) = ⊥

-- so many variables, from this number on
abbrev pub variables_from : ℕ → ℕ → List CoreVar
variables_from n zero = []
variables_from n (suc count) = Numbered n ∷ variables_from (n + 1) count

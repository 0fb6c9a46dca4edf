-- Which variable holds the value of a name.
use Rattle.std.specs.Prelude.{ℕ, List, [], ◌∷◌, Option, Some, None, ◌==◌, ◌≡◌, if◌then◌else◌}
use Rattle.ef_base.specs.declared.name.Name.{Name}
use Rattle.ef_core.specs.declared.literal.CoreVar.{CoreVar}
use Rattle.ef_core.specs.declared.env.Bind.{Bind}

abbrev pub bind : Name → CoreVar → Bind
bind n v = record { name = n; var = v }

-- the variable of the first of these that has the name
abbrev pub held : List Bind → Name → Option CoreVar
held [] n = None
held (b ∷ bs) n = if b.name.index == n.index then Some b.var else held bs n

-- no name stands twice
abbrev pub NamesDiffer : List Bind → Type 0
NamesDiffer [] = Unit {0}
NamesDiffer (b ∷ bs) = (held bs b.name ≡ None) × NamesDiffer bs

-- a variable under the number of its name
abbrev pub bind_of : ℕ × CoreVar → Bind
bind_of e = bind (record { index = e.0 }) e.1

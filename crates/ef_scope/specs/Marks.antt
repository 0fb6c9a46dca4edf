-- How many ways a mark speaks of, and the marks of names.
use Rattle.std.specs.Prelude.{ℕ, Bool, true, false, List, nat_eq}
use Rattle.std.specs.Map.{lookup}
use Rattle.std.specs.Option.{unwrap_or}
use Rattle.ef_scope.specs.declared.marks.Mark.{Mark}
use Rattle.ef_scope.specs.declared.marks.Mark.TheVariants.{Unbound, Unsafe, Safe}

-- the mark says as much as the other or more
abbrev pub is_at_least : Mark → Mark → Bool
is_at_least k Unbound = true
is_at_least Safe Unsafe = true
is_at_least Unsafe Unsafe = true
is_at_least Unbound Unsafe = false
is_at_least Safe Safe = true
is_at_least Unsafe Safe = false
is_at_least Unbound Safe = false

-- the mark of a name, and of one that stands nowhere
unfoldable pub mark_of : List (ℕ × Mark) → ℕ → Mark
mark_of entries n = unwrap_or (lookup (nat_eq n) entries) Unbound

-- What a state of the walk says of ways, and what a part of the walk does to it and to the faults.
use Rattle.std.specs.Prelude.{◌≡◌, ℕ, Bool, true, List, ◌++◌}
use Rattle.std.specs.List.{flat_map, list_any, list_all}
use Rattle.ef_base.specs.declared.fault.Fault.{Fault}
use Rattle.ef_base.specs.Faults.{set_of}
use Rattle.ef_forms.specs.Ways.{NameSet, Way}
use Rattle.ef_scope.specs.declared.marks.Mark.TheVariants.{Unsafe, Safe}
use Rattle.ef_scope.specs.declared.state.State.{State}
use Rattle.ef_scope.specs.Marks.{is_at_least, mark_of}
use Rattle.ef_scope.specs.Trail.{Since}

-- there is a set
abbrev pub given : List NameSet → Bool
given sets = list_any (λ (s : NameSet). true) sets

-- some set has the number
abbrev pub any_has : List NameSet → ℕ → Bool
any_has sets m = list_any (λ (s : NameSet). s m) sets

-- all have it
abbrev pub all_have : List NameSet → ℕ → Bool
all_have sets m = list_all (λ (s : NameSet). s m) sets

-- the state holds what is bound on some and on all of these ways
pub record Shows (sets : List NameSet) (s : State) : Type 0 where
  pub here : given sets ≡ true
  pub some : (m : ℕ) → any_has sets m ≡ is_at_least (mark_of s.marks m) Unsafe
  pub all : (m : ℕ) → all_have sets m ≡ is_at_least (mark_of s.marks m) Safe

-- these faults are added to the set
abbrev pub Adds : List Fault → List Fault → List Fault → Type 0
Adds added old new = (before : List Fault) → old ≡ set_of before → new ≡ set_of (before ++ added)

-- from a state that shows some ways, the walk comes to one that shows those behind the part, and adds the part's faults
pub record Walks (way : Way) (added : List NameSet → List Fault) (old new : State) (found found' : List Fault) : Type 0 where
  pub ways : (sets : List NameSet) → Shows sets old → Shows (flat_map way sets) new
  pub faults : (sets : List NameSet) → Shows sets old → Adds (added sets) found found'
  pub since : Since old new

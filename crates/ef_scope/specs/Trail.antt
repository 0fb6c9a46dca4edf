-- What changed since a state of the walk.
use Rattle.std.specs.Prelude.{◌≡◌, ℕ, Bool, List, [], ◌∷◌, ◌++◌, ◌==◌, ◌&&◌, ◌||◌, drop, take, if◌then◌else◌}
use Rattle.std.specs.List.{list_any}
use Rattle.ef_scope.specs.declared.marks.Mark.{Mark}
use Rattle.ef_scope.specs.declared.marks.Mark.TheVariants.{Unsafe}
use Rattle.ef_scope.specs.declared.state.Aside.{Aside}
use Rattle.ef_scope.specs.declared.state.Marked.{Marked}
use Rattle.ef_scope.specs.declared.state.State.{State}
use Rattle.ef_scope.specs.Marks.{is_at_least, mark_of}

-- the list has the number
abbrev pub has : List ℕ → ℕ → Bool
has names m = list_any (λ n. n == m) names

-- one of the changes is of the name
abbrev pub changed : List Marked → ℕ → Bool
changed changes m = list_any (λ c. c.name == m) changes

-- the mark of a name before the changes, where it has this one behind them
abbrev pub mark_before : List Marked → ℕ → Mark → Mark
mark_before [] m k = k
mark_before (c ∷ cs) m k = if c.name == m then c.mark else mark_before cs m k

-- the later state came from the earlier by changes that its trail has
pub record Since (old new : State) : Type 0 where
  pub changes : List Marked
  pub trail : new.trail.items ≡ old.trail.items ++ changes
  pub marks : (m : ℕ) → mark_before changes m (mark_of new.marks m) ≡ mark_of old.marks m

-- the changes of the earlier but the first so many are taken back
pub record GoesBack (start : ℕ) (old new : State) : Type 0 where
  pub trail : new.trail.items ≡ take start old.trail.items
  pub marks : (m : ℕ) → mark_of new.marks m ≡ mark_before (drop start old.trail.items) m (mark_of old.marks m)

-- these names have the mark or more, and the others what they had
abbrev pub Raises : (ℕ → Bool) → Mark → State → State → Type 0
Raises names mark old new = (m : ℕ) (least : Mark) → is_at_least (mark_of new.marks m) least ≡ (is_at_least (mark_of old.marks m) least || (names m && is_at_least mark least))

-- added are the names that changed behind the first so many changes and have the mark or more
abbrev pub Gathers : ℕ → Mark → State → List ℕ → List ℕ → Type 0
Gathers start least s old new = (m : ℕ) → has new m ≡ (has old m || (changed (drop start s.trail.items) m && is_at_least (mark_of s.marks m) least))

-- kept are the names that have the mark or more
abbrev pub Keeps : Mark → State → List ℕ → List ℕ → Type 0
Keeps least s old new = (m : ℕ) → has new m ≡ (has old m && is_at_least (mark_of s.marks m) least)

-- what was set aside is bound: on all ways, and on some
abbrev pub Puts : Aside → State → State → Type 0
Puts aside old new = (m : ℕ) (least : Mark) → is_at_least (mark_of new.marks m) least ≡ ((is_at_least (mark_of old.marks m) least || has aside.all.items m) || (has aside.some.items m && is_at_least Unsafe least))

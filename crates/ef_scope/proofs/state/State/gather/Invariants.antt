use Rattle.std.proofs.Common.{◌≡◌, ℕ, drop}
use Rattle.std.specs.Prelude.{◌||◌, ◌&&◌}
use Rattle.ef_scope.specs.Marks.{is_at_least, mark_of}
use Rattle.ef_scope.specs.Trail.{changed, has}
use Rattle.ef_scope.proofs.state.State.gather.Given as goal

abbrev pub invariant-loop-place : goal.invariant-loop-place
invariant-loop-place l =
    (m : ℕ) → (has l.names.items m || (changed (drop l.place l.self.trail.items) m && is_at_least (mark_of l.self.marks m) l.least)) ≡ (has l.initial.names.items m || (changed (drop l.start l.self.trail.items) m && is_at_least (mark_of l.self.marks m) l.least))

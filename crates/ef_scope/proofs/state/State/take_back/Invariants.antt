use Rattle.std.proofs.Common.{◌≡◌, ℕ, drop, take}
use Rattle.ef_scope.specs.Marks.{mark_of}
use Rattle.ef_scope.specs.Trail.{mark_before}
use Rattle.ef_scope.proofs.state.State.take_back.Given as goal

abbrev pub invariant-loop-self : goal.invariant-loop-self
invariant-loop-self l = record {
  front : take l.start l.self.trail.items ≡ take l.start l.initial.self.trail.items;
  marks : (m : ℕ) → mark_before (drop l.start l.self.trail.items) m (mark_of l.self.marks m) ≡ mark_before (drop l.start l.initial.self.trail.items) m (mark_of l.initial.self.marks m);
}

abbrev pub decreases-loop-self : goal.decreases-loop-self
decreases-loop-self l = l.self.trail.len

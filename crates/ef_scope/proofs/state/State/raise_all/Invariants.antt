use Rattle.std.proofs.Common.{◌≡◌, ℕ, drop}
use Rattle.std.specs.Prelude.{◌||◌, ◌&&◌}
use Rattle.ef_scope.specs.declared.marks.Mark.{Mark}
use Rattle.ef_scope.specs.Marks.{is_at_least, mark_of}
use Rattle.ef_scope.specs.Trail.{Since, has}
use Rattle.ef_scope.proofs.state.State.raise_all.Given as goal

abbrev pub invariant-loop-name : goal.invariant-loop-name
invariant-loop-name l = record {
  marks : (m : ℕ) (least : Mark) → (is_at_least (mark_of l.self.marks m) least || (has (drop l.name-index l.names) m && is_at_least l.mark least)) ≡ (is_at_least (mark_of l.initial.self.marks m) least || (has l.names m && is_at_least l.mark least));
  since : Since l.initial.self l.self;
}

use Rattle.std.proofs.Common.{◌≡◌, ◌-◌, length}
use Rattle.ef_front.proofs.Pending.{IsHandedSoFar}
use Rattle.ef_front.proofs.buffered.Buffered.flush.Given as goal

abbrev pub invariant-loop-self : goal.invariant-loop-self
invariant-loop-self g l =
    (l.self.sink.ghost_name ≡ l.initial.self.sink.ghost_name)
    × (l.self.pending.items ≡ l.initial.self.pending.items)
    × IsHandedSoFar (g.O.Sink.seen l.initial.self.sink.now) (g.O.Sink.seen l.self.sink.now) l.initial.self.pending.items l.initial.self.handed l.self.handed

abbrev pub decreases-loop-self : goal.decreases-loop-self
decreases-loop-self g l = length l.self.pending.items - l.self.handed

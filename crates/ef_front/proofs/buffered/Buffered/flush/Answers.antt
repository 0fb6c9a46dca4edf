use Rattle.std.proofs.Common.{arith}
use Rattle.std.proofs.lemmas.Grind.{common_steps}
use Rattle.ef_front.proofs.Pending.{handed_more}
use Rattle.ef_front.proofs.buffered.Buffered.flush.Goals as goal

pub loop-self-preserved : goal.loop-self-preserved
loop-self-preserved g c =
    let wrote = c.in_ok-self.ensures in
    let before = c.loop-self.invariant in
    (before.0, before.1, handed_more _ _ _ _ _ _ _ _ before.2 (grind (arith, common_steps)) wrote.writes.2 wrote.stays wrote.cause)

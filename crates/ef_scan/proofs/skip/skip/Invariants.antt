use Rattle.std.proofs.Common.{length}
use Rattle.ef_scan.proofs.Parts.{Passes}
use Rattle.ef_scan.proofs.skip.skip.Given as goal

abbrev pub invariant-loop-step : goal.invariant-loop-step
invariant-loop-step l = Passes l.at l.behind

abbrev pub decreases-loop-step : goal.decreases-loop-step
decreases-loop-step l = length l.behind.rest.now

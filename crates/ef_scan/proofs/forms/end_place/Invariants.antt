use Rattle.std.proofs.Common.{length}
use Rattle.ef_scan.proofs.Scanning.{EndsAt}
use Rattle.ef_scan.proofs.forms.end_place.Given as goal

abbrev pub invariant-loop-step : goal.invariant-loop-step
invariant-loop-step l = EndsAt l.text l.cursor

abbrev pub decreases-loop-step : goal.decreases-loop-step
decreases-loop-step l = length l.cursor.rest.now

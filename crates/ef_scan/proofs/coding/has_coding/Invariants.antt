use Rattle.std.proofs.Common.{length, chars}
use Rattle.ef_scan.proofs.Codings.{Sought}
use Rattle.ef_scan.proofs.coding.has_coding.Given as goal

abbrev pub invariant-loop-at : goal.invariant-loop-at
invariant-loop-at l = Sought (chars l.text) l.at

abbrev pub decreases-loop-at : goal.decreases-loop-at
decreases-loop-at l = length l.at.rest.now

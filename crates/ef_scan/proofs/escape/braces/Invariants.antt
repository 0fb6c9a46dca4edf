use Rattle.std.proofs.Common.{length}
use Rattle.ef_scan.proofs.Escaping.{HexTo}
use Rattle.ef_scan.proofs.escape.braces.Given as goal

abbrev pub invariant-loop-found : goal.invariant-loop-found
invariant-loop-found l = HexTo l.at l.behind l.value

abbrev pub decreases-loop-found : goal.decreases-loop-found
decreases-loop-found l = length l.behind.rest.now

use Rattle.std.proofs.Common.{length}
use Rattle.ef_scan.proofs.Quoting.{Reads}
use Rattle.ef_scan.proofs.quoted.escaped_text.Given as goal

abbrev pub invariant-loop-close : goal.invariant-loop-close
invariant-loop-close l = Reads l.quote l.at l.behind l.found.items l.legal

abbrev pub decreases-loop-close : goal.decreases-loop-close
decreases-loop-close l = length l.behind.rest.now

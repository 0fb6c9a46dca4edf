use Rattle.std.proofs.Common.{length}
use Rattle.ef_scan.specs.Cursors.{test_of}
use Rattle.ef_scan.proofs.Cursors.{RunsTo}
use Rattle.ef_scan.proofs.cursor.Cursor.run.Given as goal

abbrev pub invariant-loop-next : goal.invariant-loop-next
invariant-loop-next l = RunsTo (test_of l.class) l.fn.self l.behind l.count

abbrev pub decreases-loop-next : goal.decreases-loop-next
decreases-loop-next l = length l.behind.rest.now

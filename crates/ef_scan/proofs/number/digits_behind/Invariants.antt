use Rattle.std.proofs.Common.{length}
use Rattle.ef_scan.specs.declared.cursor.Cursor.{Cursor}
use Rattle.ef_scan.specs.Numbers.{IsDigit}
use Rattle.ef_scan.proofs.Numerals.{Numbered}
use Rattle.ef_scan.proofs.number.digits_behind.Given as goal

abbrev pub invariant-loop-found : goal.invariant-loop-found
invariant-loop-found l = (start : Cursor) → IsDigit l.base start l.fn.first l.fn.at → Numbered l.base start l.behind l.value

abbrev pub decreases-loop-found : goal.decreases-loop-found
decreases-loop-found l = length l.behind.rest.now

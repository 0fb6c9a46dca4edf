use Rattle.ef_scan.proofs.Escaping.{written_by_escape, written_plainly}
use Rattle.ef_scan.proofs.escape.next_written.Goals as goal

pub returns-then-step-eq92 : goal.returns-then-step-eq92
returns-then-step-eq92 c = λ special s. written_by_escape special c.args.at c.in-Some.step.1 c.in-Some.step.0 c.escaped.result c.in-Some.ensures.some c.if-step-eq92.true c.escaped.ensures

pub returns-else-step-eq92 : goal.returns-else-step-eq92
returns-else-step-eq92 c = λ special s. written_plainly special c.args.at c.in-Some.step.1 c.in-Some.step.0 c.in-Some.ensures.some c.if-step-eq92.false s

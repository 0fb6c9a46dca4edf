use Rattle.ef_scan.proofs.Numerals.{next_digit}
use Rattle.ef_scan.proofs.number.next.Goals as goal

pub returns-in-Some-clause-some : goal.returns-in-Some-clause-some
returns-in-Some-clause-some c = next_digit c.args.base c.in-Some.found.0 c.args.at c.in-Some.found.1 c.in-Some.ensures.some

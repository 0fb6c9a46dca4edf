use Rattle.ef_scan.proofs.Numerals.{underscored_some}
use Rattle.ef_scan.proofs.number.underscored.Goals as goal

pub returns-clause-some : goal.returns-clause-some
returns-clause-some c = underscored_some c.args.base c.args.at c.in_ok-step.step.1 c.in_ok-step.step.0 c.digit.result c.if-step-ne95.false c.in_ok-step.ensures.some c.digit.ensures.some

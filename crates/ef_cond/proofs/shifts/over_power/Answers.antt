use Rattle.ef_cond.proofs.Powers.{shifted_far}
use Rattle.ef_cond.proofs.shifts.over_power.Goals as goal

pub returns : goal.returns
returns c = shifted_far c.args.number c.args.count c.ranges.number c.if-count-lt127.false

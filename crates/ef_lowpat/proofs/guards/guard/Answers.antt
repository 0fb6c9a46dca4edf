use Rattle.std.proofs.Common.{arith}
use Rattle.ef_lowpat.proofs.GuardForms.{behind, behind_in_scope, behind_lowered, behind_shallow}
use Rattle.ef_lowpat.proofs.Tested.{one_gives, sides_give}
use Rattle.ef_lowpat.proofs.guards.guard.Goals as goal

pub returns-in_ok-with_sides-in_default-clause-gives : goal.returns-in_ok-with_sides-in_default-clause-gives
returns-in_ok-with_sides-in_default-clause-gives c =
    let is = behind _ _ _ _ _ _ _ _ c.draw-left.ensures.0 c.draw-left.ensures.1 c.draw-right.ensures.0 c.in_ok-comparison-in_default.ensures c.in_ok-with_sides-in_default.ensures in
    sides_give _ _ _ is.body _ c.requires.below is.is is.made

pub returns-in_ok-with_sides-in_default-clause-lowered : goal.returns-in_ok-with_sides-in_default-clause-lowered
returns-in_ok-with_sides-in_default-clause-lowered c =
    let is = behind _ _ _ _ _ _ _ _ c.draw-left.ensures.0 c.draw-left.ensures.1 c.draw-right.ensures.0 c.in_ok-comparison-in_default.ensures c.in_ok-with_sides-in_default.ensures in
    behind_lowered _ _ _ _ (omega arith) is c.requires.enough c.requires.readable

pub returns-in_ok-with_sides-in_default-clause-in_scope : goal.returns-in_ok-with_sides-in_default-clause-in_scope
returns-in_ok-with_sides-in_default-clause-in_scope c =
    let is = behind _ _ _ _ _ _ _ _ c.draw-left.ensures.0 c.draw-left.ensures.1 c.draw-right.ensures.0 c.in_ok-comparison-in_default.ensures c.in_ok-with_sides-in_default.ensures in
    behind_in_scope _ _ _ _ (omega arith) is

pub returns-in_ok-with_sides-in_default-clause-shallow : goal.returns-in_ok-with_sides-in_default-clause-shallow
returns-in_ok-with_sides-in_default-clause-shallow c =
    let is = behind _ _ _ _ _ _ _ _ c.draw-left.ensures.0 c.draw-left.ensures.1 c.draw-right.ensures.0 c.in_ok-comparison-in_default.ensures c.in_ok-with_sides-in_default.ensures in
    behind_shallow _ _ _ _ (omega arith) is

pub returns-in_ok-comparison-in-len1-clause-gives : goal.returns-in_ok-comparison-in-len1-clause-gives
returns-in_ok-comparison-in-len1-clause-gives c = one_gives _ c.args.tests.now _ _ _ c.in-len1.len_at_least c.in-len1.len_below c.in_ok-comparison-in-len1.ensures

use Rattle.std.proofs.Common.{arith}
use Rattle.ef_lowpat.proofs.Group.{binds_in_pattern, distinct, drawn_here, from_nothing, lefts_in_pattern, matched, readable_binds, readable_tests, rights_known}
use Rattle.ef_lowpat.proofs.patterns.pattern.Goals as goal

pub returns-clause-matched : goal.returns-clause-matched
returns-clause-matched c =
    matched _ _ _ _ _ _ _ (from_nothing _ _ _ _ _ _ _ _ _ c.new.ensures.items c.new-2.ensures.items c.in_ok-pats.ensures.lowers) c.args.names.now c.requires.below

pub returns-clause-distinct : goal.returns-clause-distinct
returns-clause-distinct c = distinct _ _ _ _ _ _ _ (from_nothing _ _ _ _ _ _ _ _ _ c.new.ensures.items c.new-2.ensures.items c.in_ok-pats.ensures.lowers)

pub returns-clause-drawn_here : goal.returns-clause-drawn_here
returns-clause-drawn_here c = drawn_here _ _ _ _ _ _ _ (from_nothing _ _ _ _ _ _ _ _ _ c.new.ensures.items c.new-2.ensures.items c.in_ok-pats.ensures.lowers)

pub returns-clause-binds_in_pattern : goal.returns-clause-binds_in_pattern
returns-clause-binds_in_pattern c = binds_in_pattern _ _ _ _ _ _ _ (from_nothing _ _ _ _ _ _ _ _ _ c.new.ensures.items c.new-2.ensures.items c.in_ok-pats.ensures.lowers)

pub returns-clause-lefts_in_pattern : goal.returns-clause-lefts_in_pattern
returns-clause-lefts_in_pattern c = lefts_in_pattern _ _ _ _ _ _ _ (from_nothing _ _ _ _ _ _ _ _ _ c.new.ensures.items c.new-2.ensures.items c.in_ok-pats.ensures.lowers)

pub returns-clause-rights_known : goal.returns-clause-rights_known
returns-clause-rights_known c = rights_known _ _ _ _ _ _ _ (from_nothing _ _ _ _ _ _ _ _ _ c.new.ensures.items c.new-2.ensures.items c.in_ok-pats.ensures.lowers)

pub returns-clause-lowered : goal.returns-clause-lowered
returns-clause-lowered c = c.in_ok-pats.ensures.lowers.lowered c.args.names.now c.requires.of_table

pub returns-clause-readable_binds : goal.returns-clause-readable_binds
returns-clause-readable_binds c =
    let all = from_nothing _ _ _ _ _ _ _ _ _ c.new.ensures.items c.new-2.ensures.items c.in_ok-pats.ensures.lowers in
    let drawn = all.drawn in let light = all.light in let enough = c.requires.enough in
    readable_binds _ _ _ _ _ _ _ all c.args.names.now (omega arith)

pub returns-clause-readable_tests : goal.returns-clause-readable_tests
returns-clause-readable_tests c =
    let all = from_nothing _ _ _ _ _ _ _ _ _ c.new.ensures.items c.new-2.ensures.items c.in_ok-pats.ensures.lowers in
    let drawn = all.drawn in let light = all.light in let enough = c.requires.enough in
    readable_tests _ _ _ _ _ _ _ all c.args.names.now (omega arith) c.requires.readable

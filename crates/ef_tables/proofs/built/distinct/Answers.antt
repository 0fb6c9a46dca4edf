use Rattle.std.proofs.Common.{subst, arith}
use Rattle.std.proofs.lemmas.Grind.{common_steps}
use Rattle.ef_tables.specs.Sets.{Inserts}
use Rattle.ef_tables.proofs.Sets.{distinct_step, distinct_stop}
use Rattle.ef_tables.proofs.built.distinct.Goals as goal

pub returns-then-not-branch : goal.returns-then-not-branch
returns-then-not-branch c =
    let old = subst (Inserts _ c.loop-function.set c.insert.new.self) c.if-not-branch.true c.in_ok-insert.ensures.inserts in
    distinct_stop c.args.functions.now c.loop-function.set c.loop-function.function-index _ c.loop-function-test.true (grind (arith, common_steps)) c.loop-function.invariant.0 old.0

pub loop-function-preserved : goal.loop-function-preserved
loop-function-preserved c =
    let new = subst (Inserts _ c.loop-function.set c.insert.new.self) c.if-not-branch.false c.in_ok-insert.ensures.inserts in
    distinct_step c.args.functions.now c.loop-function.set c.insert.new.self c.loop-function.function-index _ c.loop-function-test.true (grind (arith, common_steps)) c.loop-function.invariant new.0 new.1

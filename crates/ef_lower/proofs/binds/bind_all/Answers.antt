use Rattle.ef_lower.proofs.Renames.{bound_next, not_bound_yet}
use Rattle.ef_lower.proofs.binds.bind_all.Goals as goal

pub push-requires : goal.push-requires
push-requires c = not_bound_yet _ _ c.args.binds.now _ _ c.requires.differ c.requires.new c.loop-bind-test.true c.loop-bind.invariant

pub loop-bind-preserved : goal.loop-bind-preserved
loop-bind-preserved c = bound_next _ _ _ c.args.binds.now _ _ c.loop-bind-test.true c.in_ok-push.ensures.ok c.loop-bind.invariant

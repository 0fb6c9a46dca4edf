use Rattle.std.proofs.Common.{◌∙◌}
use Rattle.ef_core.proofs.Held.{held_before_at}
use Rattle.ef_core.proofs.env.Env.copy.Goals as goal

pub push-requires : goal.push-requires
push-requires c =
    held_before_at _ _ c.args.self.now _ _ c.in_ok-binds_from.ensures.differ (c.deref-bind-items.ensures.value ∙ c.in_ok-binds_from.ensures.binds) c.loop-bind.invariant c.loop-bind-test.true

use Rattle.std.proofs.Common.{sym, ◌∙◌}
use Rattle.ef_lower.proofs.Renames.{own_held, own_named}
use Rattle.ef_lower.proofs.arms.own_variables.Goals as goal

pub loop-bind-preserved : goal.loop-bind-preserved
loop-bind-preserved c = record {
  named = own_named c.args.binds.now _ _ _ _ _ c.loop-bind-test.true c.in_ok-push.ensures.items c.loop-bind.invariant.named;
  held = own_held _ _ _ _ _ c.in_ok-push.ensures.items c.loop-bind.invariant.held (sym c.var_of.ensures ∙ c.in-Some.is);
}

use Rattle.ef_core.specs.Laws.{plain_var}
use Rattle.ef_lower.proofs.Renames.{variables_push}
use Rattle.ef_lower.proofs.values.push_variables.Goals as goal

pub loop-bind-preserved : goal.loop-bind-preserved
loop-bind-preserved c = variables_push _ _ _ c.args.binds.now _ _ _ c.loop-bind-test.true c.in_ok-push.ensures.items (plain_var _) c.loop-bind.invariant

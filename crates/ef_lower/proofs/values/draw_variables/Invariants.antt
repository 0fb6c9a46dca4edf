use Rattle.std.proofs.Common.{◌≡◌, ◌+◌}
use Rattle.ef_core.specs.Fresh.{variables_from}
use Rattle.ef_lower.proofs.values.draw_variables.Given as goal

abbrev pub invariant-loop : goal.invariant-loop
invariant-loop l = (l.fresh ≡ l.fn.fresh + l.counter) × (l.vars.items ≡ variables_from l.fn.fresh l.counter)

use Rattle.std.proofs.Common.{◌≡◌, drop}
use Rattle.std.specs.List.{list_any}
use Rattle.ef_module.specs.Modules.{begins_module, lists}
use Rattle.ef_module.proofs.order.any_begins_module.Given as goal

abbrev pub invariant-loop-form : goal.invariant-loop-form
invariant-loop-form l = list_any (begins_module l.names) (lists (drop l.form-index l.tokens)) ≡ list_any (begins_module l.names) (lists l.tokens)

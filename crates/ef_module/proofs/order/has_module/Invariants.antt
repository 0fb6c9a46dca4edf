use Rattle.std.proofs.Common.{◌≡◌, drop, map}
use Rattle.ef_forms.specs.Plain.{plain_placed}
use Rattle.ef_module.specs.Modules.{has_module}
use Rattle.ef_module.proofs.order.has_module.Given as goal

abbrev pub invariant-loop-placed : goal.invariant-loop-placed
invariant-loop-placed l = has_module (map plain_placed (drop l.placed-index l.forms)) ≡ has_module (map plain_placed l.forms)

use Rattle.std.proofs.Common.{◌≡◌, drop, map}
use Rattle.ef_forms.specs.Plain.{plain_placed}
use Rattle.ef_module.specs.Modules.{number_faults, most_functions}
use Rattle.ef_module.proofs.order.add_number.Given as goal

abbrev pub invariant-loop-placed : goal.invariant-loop-placed
invariant-loop-placed l = record {
  counted : number_faults l.left (map plain_placed (drop l.placed-index l.forms)) ≡ number_faults most_functions (map plain_placed l.forms);
  same : l.found ≡ l.initial.found;
}

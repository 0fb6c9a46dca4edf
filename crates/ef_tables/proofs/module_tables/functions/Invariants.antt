use Rattle.std.proofs.Common.{◌≡◌, map, take}
use Rattle.ef_forms.specs.Built.{defined_in}
use Rattle.ef_forms.specs.Plain.{plain_placed}
use Rattle.ef_tables.proofs.module_tables.functions.Given as goal

abbrev pub invariant-loop-placed : goal.invariant-loop-placed
invariant-loop-placed l = l.found.items ≡ defined_in (map plain_placed (take l.placed-index l.forms))

use Rattle.std.proofs.Common.{◌≡◌, map, take}
use Rattle.ef_forms.specs.Built.{exports_in}
use Rattle.ef_forms.specs.Plain.{plain_placed}
use Rattle.ef_tables.proofs.module_tables.exports.Given as goal

abbrev pub invariant-loop-placed : goal.invariant-loop-placed
invariant-loop-placed l = l.found.items ≡ exports_in (map plain_placed (take l.placed-index l.forms))

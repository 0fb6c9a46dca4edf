use Rattle.std.proofs.Common.{◌≡◌, ◌≤◌, ◌+◌, drop, map}
use Rattle.ef_forms.specs.Built.{export_count_in}
use Rattle.ef_forms.specs.Plain.{plain_placed}
use Rattle.ef_tables.proofs.built.count_exports.Given as goal

abbrev pub invariant-loop-placed : goal.invariant-loop-placed
invariant-loop-placed l =
    (l.count + export_count_in (map plain_placed (drop l.placed-index l.forms)) ≡ export_count_in (map plain_placed l.forms)) × (l.count ≤ l.placed-index)

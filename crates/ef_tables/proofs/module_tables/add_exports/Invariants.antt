use Rattle.std.proofs.Common.{◌≡◌, ◌++◌, map, take}
use Rattle.ef_forms.specs.Built.{name_of}
use Rattle.ef_tables.proofs.module_tables.add_exports.Given as goal

abbrev pub invariant-loop-entry : goal.invariant-loop-entry
invariant-loop-entry l = l.found.items ≡ l.initial.found.items ++ map name_of (take l.entry-index l.entry-items)

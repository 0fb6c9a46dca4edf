use Rattle.std.proofs.Common.{◌≡◌, map, take}
use Rattle.ef_core.specs.Plain.{plain_pat}
use Rattle.ef_forms.specs.Plain.{plain}
use Rattle.ef_lowpat.specs.Lowers.{LowersItems}
use Rattle.ef_lowpat.proofs.patterns.+lower.Given as goal

abbrev pub invariant-lower_all-loop-pat : goal.invariant-lower_all-loop-pat
invariant-lower_all-loop-pat l = record {
  own : l.found.own ≡ l.found.binds.items;
  lowers : LowersItems (map plain (take l.pat-index l.pats)) l.bound l.fn.fresh l.fn.found.tests.items l.fn.found.binds.items l.fresh l.found.tests.items l.found.binds.items (map plain_pat l.made.items);
}

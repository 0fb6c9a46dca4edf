use Rattle.std.proofs.Common.{drop, map}
use Rattle.ef_forms.specs.Built.{AreBuiltForms, Each, IsBuiltFunction, functions_in}
use Rattle.ef_forms.specs.OfTable.{FormsOf}
use Rattle.ef_forms.specs.Plain.{plain_placed}
use Rattle.ef_tables.proofs.built.are_built_forms.Given as goal

abbrev pub invariant-loop-placed : goal.invariant-loop-placed
invariant-loop-placed l =
    (AreBuiltForms (map plain_placed l.forms) → AreBuiltForms (map plain_placed (drop l.placed-index l.forms)))
    × (AreBuiltForms (map plain_placed (drop l.placed-index l.forms)) → AreBuiltForms (map plain_placed l.forms))
    × (Each (IsBuiltFunction l.names l.defined) (functions_in (map plain_placed l.forms)) → Each (IsBuiltFunction l.names l.defined) (functions_in (map plain_placed (drop l.placed-index l.forms))))
    × (Each (IsBuiltFunction l.names l.defined) (functions_in (map plain_placed (drop l.placed-index l.forms))) → Each (IsBuiltFunction l.names l.defined) (functions_in (map plain_placed l.forms)))
    × FormsOf l.names (map plain_placed (drop l.placed-index l.forms))

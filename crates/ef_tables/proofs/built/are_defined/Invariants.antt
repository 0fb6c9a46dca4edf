use Rattle.std.proofs.Common.{drop}
use Rattle.ef_forms.specs.Built.{Each, IsDefined}
use Rattle.ef_tables.proofs.built.are_defined.Given as goal

abbrev pub invariant-loop-function : goal.invariant-loop-function
invariant-loop-function l =
    (Each (IsDefined l.names l.defined) l.functions → Each (IsDefined l.names l.defined) (drop l.function-index l.functions))
    × (Each (IsDefined l.names l.defined) (drop l.function-index l.functions) → Each (IsDefined l.names l.defined) l.functions)

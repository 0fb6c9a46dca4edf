use Rattle.std.proofs.Common.{◌≡◌, take}
use Rattle.ef_forms.specs.Built.{IsDistinct}
use Rattle.ef_tables.proofs.built.distinct.Given as goal

abbrev pub invariant-loop-function : goal.invariant-loop-function
invariant-loop-function l = (l.set ≡ take l.function-index l.functions) × IsDistinct (take l.function-index l.functions)

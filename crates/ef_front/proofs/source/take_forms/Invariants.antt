use Rattle.ef_module.specs.Modules.{lists}
use Rattle.ef_front.specs.Compiles.{AreTaken}
use Rattle.ef_front.proofs.source.take_forms.Given as goal

abbrev pub invariant-loop-form : goal.invariant-loop-form
invariant-loop-form l = AreTaken l.yielded l.taken.faults (lists l.taken.forms.items)

use Rattle.ef_profile.specs.Adds.{Adds}
use Rattle.ef_module.proofs.forms.add_heads.Given as goal

abbrev pub invariant-loop-fault : goal.invariant-loop-fault
invariant-loop-fault l = Adds l.yielded l.initial.found l.found

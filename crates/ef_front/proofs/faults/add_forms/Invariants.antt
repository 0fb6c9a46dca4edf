use Rattle.ef_front.proofs.Added.{FormsLeft}
use Rattle.ef_front.proofs.faults.add_forms.Given as goal

abbrev pub invariant-loop-placed : goal.invariant-loop-placed
invariant-loop-placed l = FormsLeft l.names l.forms l.placed-index l.initial.found l.found

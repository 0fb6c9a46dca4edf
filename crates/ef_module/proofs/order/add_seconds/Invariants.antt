use Rattle.std.proofs.Common.{List, length, map, false}
use Rattle.ef_base.specs.declared.fault.Fault.{Fault}
use Rattle.ef_forms.specs.Plain.{plain_placed}
use Rattle.ef_profile.specs.Adds.{Adds}
use Rattle.ef_module.specs.Modules.{seconds}
use Rattle.ef_module.proofs.order.add_seconds.Given as goal

abbrev pub invariant-loop-rest : goal.invariant-loop-rest
invariant-loop-rest l = (new : List Fault) → Adds (seconds l.seen (map plain_placed l.rest)) l.found new → Adds (seconds false (map plain_placed l.forms)) l.initial.found new

abbrev pub decreases-loop-rest : goal.decreases-loop-rest
decreases-loop-rest l = length l.rest

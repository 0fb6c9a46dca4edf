use Rattle.std.proofs.Common.{◌+◌, ◌≤◌, List, length, None}
use Rattle.ef_base.specs.declared.fault.Fault.{Fault}
use Rattle.ef_profile.specs.Adds.{Adds}
use Rattle.ef_module.specs.Refused.{depth_of, refused_from}
use Rattle.ef_module.proofs.refused.add_refused.Given as goal

abbrev pub invariant-loop-rest : goal.invariant-loop-rest
invariant-loop-rest l = record {
  fits : depth_of l.depth + length l.rest ≤ length l.tokens;
  adds : (new : List Fault) → Adds (refused_from l.typed l.depth l.rest) l.found new → Adds (refused_from l.typed None l.tokens) l.initial.found new;
}

abbrev pub decreases-loop-rest : goal.decreases-loop-rest
decreases-loop-rest l = length l.rest

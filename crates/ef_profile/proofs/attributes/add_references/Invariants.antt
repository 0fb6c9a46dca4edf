use Rattle.std.proofs.Common.{take}
use Rattle.std.specs.List.{flat_map}
use Rattle.ef_profile.specs.Adds.{Adds}
use Rattle.ef_profile.specs.Unbuilt.{reference_faults}
use Rattle.ef_profile.proofs.attributes.add_references.Given as goal

abbrev pub invariant-loop-reference : goal.invariant-loop-reference
invariant-loop-reference l = Adds (flat_map reference_faults (take l.reference-index l.references)) l.initial.found l.found

use Rattle.std.proofs.Common.{take}
use Rattle.std.specs.List.{flat_map}
use Rattle.ef_forms.specs.declared.walk.Seen.{Seen}
use Rattle.ef_forms.specs.Shown.{show}
use Rattle.ef_profile.specs.Adds.{Adds}
use Rattle.ef_profile.specs.Unbuilt.{node_faults}
use Rattle.ef_profile.proofs.unbuilt.add_nodes.Given as goal

abbrev pub invariant-loop-seen : goal.invariant-loop-seen
invariant-loop-seen l = Adds (flat_map (λ (s : Seen). node_faults l.names (show s)) (take l.seen-index l.nodes)) l.initial.found l.found

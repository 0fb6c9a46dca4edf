use Rattle.std.proofs.Common.{take}
use Rattle.ef_core.specs.Normal.{ArePatLits}
use Rattle.ef_core.specs.Plain.{plain_pats}
use Rattle.ef_lowpat.proofs.nodes.are_literals.Given as goal

abbrev pub invariant-loop-pat : goal.invariant-loop-pat
invariant-loop-pat l = ArePatLits (plain_pats (take l.pat-index l.pats))

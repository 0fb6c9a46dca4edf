use Rattle.ef_io.specs.Files.{IsGrown}
use Rattle.ef_io.proofs.file_sources.append.Given as goal

abbrev pub invariant-loop-left : goal.invariant-loop-left
invariant-loop-left g l = IsGrown l.initial.into.items l.into.items

abbrev pub decreases-loop-left : goal.decreases-loop-left
decreases-loop-left g l = l.left

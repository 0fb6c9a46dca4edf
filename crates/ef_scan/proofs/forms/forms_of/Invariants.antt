use Rattle.std.proofs.Common.{length}
use Rattle.ef_scan.specs.Gathered.{IsGathered}
use Rattle.ef_scan.proofs.forms.forms_of.Given as goal

abbrev pub invariant-parts : goal.invariant-parts
invariant-parts l = IsGathered l.initial.names l.names l.file l.fn.text l.cursor l.gathered

abbrev pub decreases-parts : goal.decreases-parts
decreases-parts l = length l.cursor.rest.now

use Rattle.ef_profile.specs.Unbuilt.{reference_faults}
use Rattle.ef_profile.proofs.Adding.{adds_all, adds_at}
use Rattle.ef_profile.proofs.attributes.add_references.Goals as goal

pub loop-reference-preserved : goal.loop-reference-preserved
loop-reference-preserved c =
    adds_at reference_faults c.args.references.now c.loop-reference.reference-index _
    c.args.found.now c.loop-reference.found c.add_reference.new.found c.loop-reference-test.true c.loop-reference.invariant c.in_ok-add_reference.ensures

pub returns : goal.returns
returns c = adds_all reference_faults c.args.references.now c.loop-reference.reference-index c.args.found.now c.loop-reference.found c.loop-reference-test.false c.loop-reference.invariant

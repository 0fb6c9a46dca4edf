use Rattle.ef_front.proofs.Added.{forms_more, forms_end}
use Rattle.ef_front.proofs.faults.add_forms.Goals as goal

pub loop-placed-preserved : goal.loop-placed-preserved
loop-placed-preserved c =
    forms_more c.args.names.now c.args.forms.now c.loop-placed.placed-index c.placed-item.result c.args.found.now c.loop-placed.found c.add_form.new.found c.loop-placed-test.true c.placed-item.is c.loop-placed.invariant c.in_ok-add_form.ensures

pub returns : goal.returns
returns c = forms_end c.args.names.now c.args.forms.now c.loop-placed.placed-index c.args.found.now c.loop-placed.found c.loop-placed-test.false c.loop-placed.invariant

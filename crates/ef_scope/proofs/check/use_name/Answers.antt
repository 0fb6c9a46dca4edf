use Rattle.ef_forms.specs.Ways.{one_name, use_faults}
use Rattle.ef_scope.proofs.Parts.{walks_bind}
use Rattle.ef_scope.proofs.check.use_name.Goals as goal

pub returns : goal.returns
returns c =
    walks_bind (one_name c.args.name) (use_faults c.args.names.now c.args.place c.args.name) c.args.state.now c.raise.new.self c.args.found.now c.check_use.new.found
    c.in_ok-raise.ensures.raises c.in_ok-raise.ensures.since c.in_ok-check_use.ensures

use Rattle.ef_forms.specs.Plain.{plain}
use Rattle.ef_forms.specs.Ways as ways
use Rattle.ef_forms.specs.Ways.{pattern_faults}
use Rattle.ef_scope.proofs.Patterns.{walks_pattern}
use Rattle.ef_scope.proofs.pattern.match_pattern.Goals as goal

pub returns : goal.returns
returns c =
    walks_pattern (ways.names (plain c.args.pattern.now)) (pattern_faults c.args.names.now (plain c.args.pattern.now)) c.args.state.now c.raise_all.new.self c.args.found.now c.check_pattern.new.found
    c.new-bound.result.items c.check_pattern.new.bound.items c.deref.result.now c.new-bound.ensures.items c.deref.ensures.value c.in_ok-check_pattern.ensures.faults c.in_ok-check_pattern.ensures.names c.in_ok-raise_all.ensures.raises c.in_ok-raise_all.ensures.since

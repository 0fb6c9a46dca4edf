use Rattle.ef_forms.specs.Plain.{plain_all}
use Rattle.ef_forms.specs.Ways.{all_names, patterns_faults}
use Rattle.ef_scope.proofs.Patterns.{walks_pattern}
use Rattle.ef_scope.proofs.pattern.match_patterns.Goals as goal

pub returns : goal.returns
returns c =
    walks_pattern (all_names (plain_all c.args.patterns.now)) (patterns_faults c.args.names.now (plain_all c.args.patterns.now)) c.args.state.now c.raise_all.new.self c.args.found.now c.check_patterns.new.found
    c.new-bound.result.items c.check_patterns.new.bound.items c.deref.result.now c.new-bound.ensures.items c.deref.ensures.value c.in_ok-check_patterns.ensures.faults c.in_ok-check_patterns.ensures.names c.in_ok-raise_all.ensures.raises c.in_ok-raise_all.ensures.since

use Rattle.std.proofs.Common.{◌∙◌, sym, ap}
use Rattle.ef_base.specs.Faults.{set_of}
use Rattle.ef_forms.specs.Plain.{plain_function}
use Rattle.ef_forms.proofs.Ways.{faults_later}
use Rattle.ef_scope.proofs.Choices.{from_none}
use Rattle.ef_scope.proofs.check.scope_faults.Goals as goal

pub returns : goal.returns
returns c = λ all later.
    from_none c.args.names.now c.args.function.now.clauses.items c.deref.result.now c.new-state.result c.check_clauses.new.state c.new-found.result c.check_clauses.new.found
    c.deref.ensures.value c.new-state.ensures c.new-found.ensures c.in_ok-check_clauses.ensures
    ∙ ap set_of (sym (faults_later c.args.names.now all (plain_function c.args.function.now) c.requires later))

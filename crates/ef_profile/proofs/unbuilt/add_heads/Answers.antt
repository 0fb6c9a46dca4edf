use Rattle.std.proofs.Common.{sym, subst}
use Rattle.ef_forms.specs.declared.expr.Clause.{Clause}
use Rattle.ef_forms.specs.Shown.{show_head}
use Rattle.ef_profile.specs.Adds.{Adds}
use Rattle.ef_profile.specs.Unbuilt.{head_faults}
use Rattle.ef_profile.proofs.Adding.{adds_all, adds_more, flat_map-map}
use Rattle.ef_profile.proofs.unbuilt.add_heads.Goals as goal

pub loop-clause-preserved : goal.loop-clause-preserved
loop-clause-preserved c =
    adds_more (λ (d : Clause). head_faults (show_head d)) c.args.clauses.now c.loop-clause.clause-index c.clause-item.result
    c.args.found.now c.loop-clause.found c.add_head.new.found c.loop-clause-test.true c.clause-item.is c.loop-clause.invariant c.in_ok-add_head.ensures

pub returns : goal.returns
returns c =
    subst (λ l. Adds l c.args.found.now c.loop-clause.found) (sym (flat_map-map head_faults show_head c.args.clauses.now))
    (adds_all (λ (d : Clause). head_faults (show_head d)) c.args.clauses.now c.loop-clause.clause-index c.args.found.now c.loop-clause.found c.loop-clause-test.false c.loop-clause.invariant)

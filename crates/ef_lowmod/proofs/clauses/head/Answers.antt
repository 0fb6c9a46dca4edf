use Rattle.std.proofs.Common.{ap, subst, arith}
use Rattle.ef_core.specs.Plain as core
use Rattle.ef_forms.specs.declared.expr.Clause.{out-Clause}
use Rattle.ef_forms.specs.Plain.{plain_all}
use Rattle.ef_forms.specs.Weight.{all_weight}
use Rattle.ef_lower.specs.Matches.{IsFrontOf}
use Rattle.ef_lowmod.proofs.clauses.head.Goals as goal

pub binding_front-requires-clause-enough : goal.binding_front-requires-clause-enough
binding_front-requires-clause-enough c =
    let patterns = ap (λ l. all_weight (plain_all l)) c.deref.ensures.value in
    let enough = c.requires.enough in
    omega arith

pub returns : goal.returns
returns c =
    let made = c.in_ok-made.made in
    subst (λ l. IsFrontOf c.args.names.now (plain_all (out-Clause c.args.clause.now).patterns.items) c.args.fresh.now l c.binding_front.new.fresh (core.plain_pats made.front.pats.items) (core.plain made.front.guard) made.binds.items) c.new-none.ensures
    (subst (λ ps. IsFrontOf c.args.names.now (plain_all ps) c.args.fresh.now c.new-none.result c.binding_front.new.fresh (core.plain_pats made.front.pats.items) (core.plain made.front.guard) made.binds.items) c.deref.ensures.value c.in_ok-made.ensures)

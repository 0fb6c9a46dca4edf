use Rattle.std.proofs.Common.{length, map, ap, ◌∙◌, subst, arith}
use Rattle.ef_core.specs.declared.literal.CoreVar.TheVariants.{Numbered}
use Rattle.ef_core.specs.Fresh.{variables_from}
use Rattle.ef_core.specs.Plain.{plain}
use Rattle.ef_core.specs.Tree as c
use Rattle.ef_lower.specs.Matches.{FailsWith}
use Rattle.ef_lower.proofs.Numbered.{numbered_count}
use Rattle.ef_lower.proofs.last.taking.Goals as goal

pub returns-clause-pats : goal.returns-clause-pats
returns-clause-pats x = x.in_ok-pats.ensures ∙ ap (map (λ y. c.pat_var y)) (x.deref.ensures.value ∙ x.in_ok-vars.ensures.variables)

pub returns-clause-fails : goal.returns-clause-fails
returns-clause-fails x =
    let now = x.args.names.now in
    let z = x.args.fresh.now in
    let listed = x.deref-2.ensures.value ∙ x.in_ok-vars.ensures.variables in
    subst (λ k. FailsWith now x.args.why.now (variables_from z x.args.count) (Numbered k) (plain x.in_ok-body.body)) x.in_ok-vars.ensures.drawn
    (subst (λ zs. FailsWith now x.args.why.now zs (Numbered x.draw_variables.new.fresh) (plain x.in_ok-body.body)) listed x.in_ok-body.ensures.fails)

pub returns-clause-drawn : goal.returns-clause-drawn
returns-clause-drawn x =
    let z = x.args.fresh.now in
    let drawn = x.in_ok-vars.ensures.drawn in
    let listed = x.deref-2.ensures.value ∙ x.in_ok-vars.ensures.variables in
    let number = ap length listed ∙ numbered_count z x.args.count in
    let next = x.in_ok-body.ensures.drawn in
    omega arith

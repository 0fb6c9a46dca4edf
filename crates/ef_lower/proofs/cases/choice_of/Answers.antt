use Rattle.std.proofs.Common.{ap, ◌∙◌, sym, subst, map}
use Rattle.ef_core.specs.Laws.{plain_case}
use Rattle.ef_core.specs.Plain as core
use Rattle.ef_core.specs.Tree as c'
use Rattle.ef_lower.specs.Arms.{IsCaseOf, plain_arm}
use Rattle.ef_lower.proofs.cases.choice_of.Goals as goal

pub returns-in_ok-arg-in-Ok : goal.returns-in_ok-arg-in-Ok
returns-in_ok-arg-in-Ok c =
    let arms = map plain_arm c.args.arms.items in
    let clauses = c.in-Ok.clauses in
    let is = plain_case c.in_ok-arg-in-Ok.arg clauses ∙ ap (λ e. c'.case_of (core.plain e) (core.plain_clauses clauses.items)) c.in_ok-arg-in-Ok.ensures.ok in
    subst (IsCaseOf c.args.names.now (core.plain c.args.arg) arms c.args.fresh.now c.clauses_of.new.fresh) (sym is) (c.in-Ok.ensures (core.plain c.args.arg))

use Rattle.std.proofs.Common.{◌≡◌, ◌++◌, ap, ◌∙◌, map}
use Rattle.ef_core.specs.Plain as core
use Rattle.ef_core.specs.Plain.{ClauseTree}
use Rattle.ef_core.specs.Tree.{CoreTree}
use Rattle.ef_meaning.specs.Cases.{together}
use Rattle.ef_lower.specs.Exports.{held_variables}
use Rattle.ef_lower.proofs.matches.names_clause.Goals as goal

pub returns : goal.returns
returns c =
    let front = c.args.made.front in
    let made : CoreTree → ClauseTree = λ b. record { pats = core.plain_pats front.pats.items; guard = core.plain front.guard; body = b } in
    let body : core.plain c.together.result ≡ together (held_variables c.args.made.binds.items) =
    c.together.ensures
    ∙ ap together (c.in_ok-push_variables.ensures ∙ ap (λ l. map core.plain l ++ held_variables c.deref.result.now) c.new-values.ensures.items ∙ ap held_variables c.deref.ensures.value) in
    ap made body

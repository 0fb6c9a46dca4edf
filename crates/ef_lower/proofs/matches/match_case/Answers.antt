use Rattle.std.proofs.Common.{[], ◌∷◌, ap, ◌∙◌}
use Rattle.ef_core.specs.Plain as core
use Rattle.ef_core.specs.Tree as c'
use Rattle.ef_lower.proofs.matches.match_case.Goals as goal

pub returns-in_ok-over_variable-in-Ok : goal.returns-in_ok-over_variable-in-Ok
returns-in_ok-over_variable-in-Ok c =
    c.in_ok-over_variable-in-Ok.ensures
    ∙ ap (λ l. c'.case_of (c'.var c.args.var) (core.plain_clauses l)) c.in_ok-clauses-in-Ok.ensures
    ∙ ap (λ k. c'.case_of (c'.var c.args.var) (core.clauses (k ∷ core.plain_clause c.args.last ∷ []))) c.in-Ok.ensures

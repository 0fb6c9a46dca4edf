use Rattle.std.proofs.Common.{ap, ◌∙◌, ◌∷◌, decimal}
use Rattle.ef_core.specs.Lexeme.{Var}
use Rattle.ef_print.proofs.Written.{gap_and_text, var_gap, appends_then}
use Rattle.ef_print.proofs.vars.print_numbered.Goals as goal

pub returns-clause-prints : goal.returns-clause-prints
returns-clause-prints g c =
    gap_and_text _ _ _ _ _ (Var (95 ∷ decimal c.args.number)) _ _ _ _ _ c.in_ok-last.was (c.plain_gap.ensures ∙ var_gap c.in_ok-last.last (95 ∷ decimal c.args.number)) (ap (λ b. 95 ∷ b) (c.as_bytes.ensures.value ∙ c.format.ensures.text))
    c.write-written.ensures.appends (appends_then _ _ _ _ _ _ _ _ c.write-written-2.ensures.appends c.write-written-3.ensures.appends) c.ended.ensures

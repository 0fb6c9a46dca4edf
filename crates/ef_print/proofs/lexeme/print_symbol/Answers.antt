use Rattle.std.proofs.Common.{subst}
use Rattle.ef_core.specs.Lexeme.{Sym}
use Rattle.ef_print.specs.Prints.{Ended}
use Rattle.ef_print.proofs.Written.{gap_and_text}
use Rattle.ef_print.proofs.lexeme.print_symbol.Goals as goal

pub returns-clause-prints : goal.returns-clause-prints
returns-clause-prints g c =
    gap_and_text _ _ _ _ _ (Sym c.args.symbol) _ _ _ _ _ c.in_ok-last.was c.symbol_gap.ensures c.symbol_text.ensures
    c.write-written.ensures.appends c.write-written-2.ensures.appends (subst (λ next. Ended c.write-written-2.result next c.ended.result) c.after_symbol.ensures c.ended.ensures)

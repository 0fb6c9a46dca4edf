use Rattle.std.proofs.Common.{◌∙◌}
use Rattle.ef_core.specs.Lexeme.{TheWord}
use Rattle.ef_print.proofs.Written.{gap_and_text, word_gap}
use Rattle.ef_print.proofs.lexeme.print_word.Goals as goal

pub returns-clause-prints : goal.returns-clause-prints
returns-clause-prints g c =
    gap_and_text _ _ _ _ _ (TheWord c.args.word) _ _ _ _ _ c.in_ok-last.was (c.plain_gap.ensures ∙ word_gap c.in_ok-last.last c.args.word) c.word_text.ensures
    c.write-written.ensures.appends c.write-written-2.ensures.appends c.ended.ensures

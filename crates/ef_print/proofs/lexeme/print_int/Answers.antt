use Rattle.std.proofs.Common.{ap, ◌∙◌, to_z-of_z}
use Rattle.std.specs.Fmt.{signed_decimal}
use Rattle.ef_core.specs.Lexeme.{Int}
use Rattle.ef_print.proofs.Written.{gap_and_text, int_gap}
use Rattle.ef_print.proofs.lexeme.print_int.Goals as goal

pub returns-clause-prints : goal.returns-clause-prints
returns-clause-prints g c =
    gap_and_text _ _ _ _ _ (Int c.args.value) _ _ _ _ _ c.in_ok-last.was (c.plain_gap.ensures ∙ int_gap c.in_ok-last.last c.args.value) (c.as_bytes.ensures.value ∙ c.format.ensures.text ∙ ap signed_decimal (to_z-of_z c.ranges.value))
    c.write-written.ensures.appends c.write-written-2.ensures.appends c.ended.ensures

use Rattle.std.proofs.Common.{◌∙◌, sym}
use Rattle.ef_core.specs.Lexeme.{Var}
use Rattle.ef_base.specs.Laws.{extends_same}
use Rattle.ef_base.specs.Texts.{text}
use Rattle.ef_print.proofs.Written.{gap_and_text, var_gap}
use Rattle.ef_print.proofs.vars.print_named.Goals as goal

pub returns-clause-prints : goal.returns-clause-prints
returns-clause-prints g c =
    gap_and_text _ _ _ _ _ (Var (text c.args.names.now c.args.name)) _ _ _ _ _ c.in_ok-last.was (c.plain_gap.ensures ∙ var_gap c.in_ok-last.last (text c.args.names.now c.args.name)) (c.as_bytes.ensures.value ∙ sym (c.text.ensures c.args.names.now (extends_same c.args.names.now)).is)
    c.write-written.ensures.appends c.write-written-2.ensures.appends c.ended.ensures

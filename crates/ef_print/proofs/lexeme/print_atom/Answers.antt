use Rattle.std.proofs.Common.{◌∙◌, ◌∷◌, ◌++◌, [], sym, ap}
use Rattle.std.specs.Prelude.{flat_map}
use Rattle.std.specs.Str.{chars}
use Rattle.ef_base.specs.Laws.{extends_same}
use Rattle.ef_base.specs.Texts.{text}
use Rattle.ef_core.specs.Pieces.{escaped}
use Rattle.ef_core.specs.Lexeme.{Atom}
use Rattle.ef_print.proofs.Written.{gap_and_text, atom_gap, appends_then}
use Rattle.ef_print.proofs.lexeme.print_atom.Goals as goal

pub returns-clause-prints : goal.returns-clause-prints
returns-clause-prints g c =
    let letters = chars (text c.args.names.now c.args.name) in
    let same = (c.text.ensures c.args.names.now (extends_same c.args.names.now)).is in
    gap_and_text _ _ _ _ _ (Atom letters) _ _ _ _ _ c.in_ok-last.was (c.plain_gap.ensures ∙ atom_gap c.in_ok-last.last letters)
    (ap (λ t. 39 ∷ (flat_map escaped (chars t) ++ 39 ∷ [])) (sym same))
    c.write-written.ensures.appends
    (appends_then _ _ _ _ _ _ _ _ c.write-written-2.ensures.appends
    (appends_then _ _ _ _ _ _ _ _ c.write_escaped-written.ensures.appends c.write-written-3.ensures.appends))
    c.ended.ensures

use Rattle.ef_token.proofs.Names.{spelled_atom}
use Rattle.ef_base.specs.Laws.{extends_same}
use Rattle.ef_token.proofs.spelling.spell_kind.Goals as goal

pub returns-in-Atom-clause-spells : goal.returns-in-Atom-clause-spells
returns-in-Atom-clause-spells c =
    spelled_atom c.args.names.now c.args.kind.now c.in-Atom.name c.text.result.now c.args.into.now.items c.spell_atom.new.into.items c.spell_atom.result c.in-Atom.is
    (c.text.ensures c.args.names.now (extends_same c.args.names.now)) c.text.utf8 c.spell_atom.ensures.spells

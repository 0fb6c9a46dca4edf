use Rattle.ef_token.proofs.ReadBack.{all_read_back}
use Rattle.ef_token.proofs.spelling.spell.Goals as goal

pub returns-clause-reads_back : goal.returns-clause-reads_back
returns-clause-reads_back c =
    all_read_back c.spell_kind.result c.args.names.now c.args.token.now.kind c.args.into.now.items c.spell_kind.new.into.items c.requires c.spell_kind.ensures.spells

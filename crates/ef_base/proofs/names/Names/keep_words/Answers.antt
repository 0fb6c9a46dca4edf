use Rattle.ef_base.proofs.names.Names.keep_words.Goals as goal

pub returns-clause-held : goal.returns-clause-held
returns-clause-held c = c.intern_all.ensures.held

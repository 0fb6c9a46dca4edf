use Rattle.ef_lowmod.proofs.Ready.{fixed_hold}
use Rattle.ef_lowmod.proofs.module.keep_words.Goals as goal

pub returns-clause-words : goal.returns-clause-words
returns-clause-words c = fixed_hold _ c.in_ok-keep_words.ensures.held

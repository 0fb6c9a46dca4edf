use Rattle.ef_base.specs.Laws.{named}
use Rattle.ef_base.proofs.Searches.{at_text, none_text}
use Rattle.ef_base.proofs.names.Names.find.Goals as goal

pub returns-in-Some-clause-found : goal.returns-in-Some-clause-found
returns-in-Some-clause-found c =
    rw (← c.self.view_is) (λ all later. named _ all _ _ (at_text c.self.inside.texts.keys c.args.text.now c.in-Some.index c.in-Some.field-0-1.now c.in-Some.ensures.stored c.in-Some.ensures.key) later)

pub returns-in-None-clause-none : goal.returns-in-None-clause-none
returns-in-None-clause-none c = rw (← c.self.view_is) (none_text c.self.inside.texts.keys c.args.text.now c.in-None.ensures.key)

use Rattle.ef_base.specs.Laws.{extends_same, has_later}
use Rattle.ef_forms.specs.Plain.{plain_module}
use Rattle.ef_lowmod.proofs.Conditions.{module_let_form, module_shallow}
use Rattle.ef_lowmod.proofs.module.lower.Goals as goal

pub returns-clause-outlined : goal.returns-clause-outlined
returns-clause-outlined c = λ all later. (c.in_ok-lower_whole.ensures.whole all later).outline

pub returns-clause-let_form : goal.returns-clause-let_form
returns-clause-let_form c =
    let now = c.lower_whole.new.names in
    module_let_form now (plain_module c.args.module.now) _ (c.in_ok-lower_whole.ensures.whole now (extends_same now))
    (has_later _ now _ c.requires.of_table.0 c.in_ok-lower_whole.ensures.kept)

pub returns-clause-shallow : goal.returns-clause-shallow
returns-clause-shallow c =
    let now = c.lower_whole.new.names in
    module_shallow now (plain_module c.args.module.now) _ (c.in_ok-lower_whole.ensures.whole now (extends_same now))

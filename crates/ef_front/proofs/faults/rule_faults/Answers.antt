use Rattle.std.proofs.Common.{◌∙◌, ap, [], map}
use Rattle.ef_base.specs.Faults.{set_of}
use Rattle.ef_forms.specs.Plain.{plain_placed}
use Rattle.ef_front.specs.Source.{forms_faults}
use Rattle.ef_front.proofs.faults.rule_faults.Goals as goal

pub returns : goal.returns
returns c = λ all later.
    c.in_ok-add_forms.ensures all later [] c.new-found.ensures ∙ ap (λ l. set_of (forms_faults all (map plain_placed l))) c.deref.ensures.value

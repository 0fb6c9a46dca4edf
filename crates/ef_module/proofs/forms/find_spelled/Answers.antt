use Rattle.std.proofs.Common.{◌∙◌, ap, subst}
use Rattle.ef_base.specs.NamedFaults.{too_deep}
use Rattle.ef_forms.specs.Plain.{plain_form}
use Rattle.ef_parse.specs.Spelled as s
use Rattle.ef_module.proofs.FormFound.{at_no_form, at_deep_form}
use Rattle.ef_module.proofs.forms.find_spelled.Goals as goal

pub returns-in_ok-push-in-No : goal.returns-in_ok-push-in-No
returns-in_ok-push-in-No c = λ all e.
    at_no_form c.args.names.now all e c.args.tokens.now c.requires.named c.requires.faultless c.kind_of.result c.in_ok-not_spelled-in-No.field-0 c.args.found.now c.push.new.self
    c.kind_of.ensures (rw c.in-No.is at (c.in_ok-spelled_form.ensures all e)) c.in_ok-not_spelled-in-No.ensures c.requires.none c.in_ok-push-in-No.ensures.ok

pub returns-in_ok-push-in-Deep : goal.returns-in_ok-push-in-Deep
returns-in_ok-push-in-Deep c = λ all e.
    at_deep_form c.args.names.now all e c.args.tokens.now c.requires.named c.requires.faultless c.kind_of.result c.too_deep.result c.args.found.now c.push-in-Deep.new.self
    c.kind_of.ensures (rw c.in-Deep.is at (c.in_ok-spelled_form.ensures all e)) (c.too_deep.ensures ∙ ap too_deep c.start_of.ensures) c.requires.none c.in_ok-push-in-Deep.ensures.ok

pub find_kept-requires-clause-spelled : goal.find_kept-requires-clause-spelled
find_kept-requires-clause-spelled c = λ all e.
    subst (λ k. s.IsForm all k (plain_form c.in-Form.form) c.in-Form.faults.items c.args.tokens.now) c.kind_of.ensures (rw c.in-Form.is at (c.in_ok-spelled_form.ensures all e)).0

pub find_kept-requires-clause-of_table : goal.find_kept-requires-clause-of_table
find_kept-requires-clause-of_table c = λ all e. (rw c.in-Form.is at (c.in_ok-spelled_form.ensures all e)).1

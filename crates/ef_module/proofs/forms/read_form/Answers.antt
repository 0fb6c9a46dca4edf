use Rattle.std.proofs.Common.{subst, Some}
use Rattle.ef_module.specs.Found.{IsFound}
use Rattle.ef_module.proofs.forms.read_form.Goals as goal

pub returns-in-Ok-Some-clause-read : goal.returns-in-Ok-Some-clause-read
returns-in-Ok-Some-clause-read c = λ all e.
    let r : IsFound all c.args.tokens.now (Some c.in-Ok-Some.form) c.find_form.new.found =
    subst (λ o. IsFound all c.args.tokens.now o c.find_form.new.found) c.in-Ok-Some.field-0-is (c.in-Ok-Some.ensures all e) in
    r.0

pub returns-in-Ok-Some-clause-of_table : goal.returns-in-Ok-Some-clause-of_table
returns-in-Ok-Some-clause-of_table c = λ all e.
    let r : IsFound all c.args.tokens.now (Some c.in-Ok-Some.form) c.find_form.new.found =
    subst (λ o. IsFound all c.args.tokens.now o c.find_form.new.found) c.in-Ok-Some.field-0-is (c.in-Ok-Some.ensures all e) in
    r.1

pub returns-in-Ok-None-clause-refused : goal.returns-in-Ok-None-clause-refused
returns-in-Ok-None-clause-refused c = λ all e.
    subst (λ o. IsFound all c.args.tokens.now o c.find_form.new.found) c.in-Ok-None.field-0-is (c.in-Ok-None.ensures all e)

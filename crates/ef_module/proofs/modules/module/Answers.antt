use Rattle.std.proofs.Common.{subst, Some}
use Rattle.ef_module.specs.Found.{IsModuleFound}
use Rattle.ef_module.specs.Modules.{lists}
use Rattle.ef_module.proofs.modules.module.Goals as goal

pub returns-in-Ok-Some-clause-read : goal.returns-in-Ok-Some-clause-read
returns-in-Ok-Some-clause-read c = λ all e.
    let tss = lists c.args.forms.now in
    let r : IsModuleFound all tss (Some c.in-Ok-Some.module) c.find_module.new.found =
    subst (λ o. IsModuleFound all tss o c.find_module.new.found) c.in-Ok-Some.field-0-is (c.in-Ok-Some.ensures all e) in
    r.0

pub returns-in-Ok-Some-clause-of_table : goal.returns-in-Ok-Some-clause-of_table
returns-in-Ok-Some-clause-of_table c = λ all e.
    let tss = lists c.args.forms.now in
    let r : IsModuleFound all tss (Some c.in-Ok-Some.module) c.find_module.new.found =
    subst (λ o. IsModuleFound all tss o c.find_module.new.found) c.in-Ok-Some.field-0-is (c.in-Ok-Some.ensures all e) in
    r.1

pub returns-in-Ok-None-clause-refused : goal.returns-in-Ok-None-clause-refused
returns-in-Ok-None-clause-refused c = λ all e.
    subst (λ o. IsModuleFound all (lists c.args.forms.now) o c.find_module.new.found) c.in-Ok-None.field-0-is (c.in-Ok-None.ensures all e)

use Rattle.std.proofs.Common.{map}
use Rattle.std.proofs.lemmas.Result.{on_ok_weaker}
use Rattle.ef_forms.specs.Plain.{plain_placed}
use Rattle.ef_module.proofs.ModuleFound.{next_read, found_faulty}
use Rattle.ef_module.proofs.modules.find_next.Goals as goal

pub returns-in_ok-push-in-Ok : goal.returns-in_ok-push-in-Ok
returns-in_ok-push-in-Ok c = λ all e before h.
    next_read all before c.args.placed.now.items c.push.new.self.items c.args.found.now c.args.tokens.now (record { place = c.start_of-place.result; form = c.in-Ok.form })
    c.in_ok-push-in-Ok.ensures.items c.start_of-place.ensures h (c.in-Ok.ensures.read all e) (c.in-Ok.ensures.of_table all e)

pub returns-in-Err-Faulty : goal.returns-in-Err-Faulty
returns-in-Err-Faulty c = on_ok_weaker c.append.result (λ adds all e before h.
    found_faulty all before (map plain_placed c.args.placed.now.items) c.args.found.now c.append.new.self c.args.tokens.now c.in-Err-Faulty.faults h
    (rw c.in-Err-Faulty.field-0-is at (c.in-Err-Faulty.ensures.refused all e)) adds) c.append.ensures

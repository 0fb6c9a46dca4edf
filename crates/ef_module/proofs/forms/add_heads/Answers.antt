use Rattle.std.proofs.Common.{[], ◌∷◌}
use Rattle.ef_profile.proofs.Adding.{adds_one, adds_then}
use Rattle.ef_module.proofs.forms.add_heads.Goals as goal

pub loop-fault-preserved : goal.loop-fault-preserved
loop-fault-preserved c =
    adds_then c.args.found.now c.loop-fault.found c.push.new.self c.loop-fault.yielded (c.in-Some.fault ∷ []) c.loop-fault.invariant
    (adds_one c.loop-fault.found c.push.new.self c.in-Some.fault c.in_ok-push.ensures.ok)

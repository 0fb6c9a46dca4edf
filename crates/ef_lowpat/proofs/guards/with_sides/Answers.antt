use Rattle.ef_lowpat.proofs.Sides.{behind_sides_is}
use Rattle.ef_lowpat.proofs.guards.with_sides.Goals as goal

pub returns-in_ok-body-in-Ok : goal.returns-in_ok-body-in-Ok
returns-in_ok-body-in-Ok c = behind_sides_is c.args.tests.now _ _ c.in-Ok.steps c.in_ok-body-in-Ok.body _ c.in-Ok.ensures c.in_ok-body-in-Ok.ensures.ok

use Rattle.std.proofs.Common.{refl}
use Rattle.ef_core.proofs.Held.{held_before_at}
use Rattle.ef_lowmod.proofs.clauses.env_of.Goals as goal

pub push-requires : goal.push-requires
push-requires c = held_before_at _ _ c.args.binds.now _ _ c.requires refl c.loop-bind.invariant c.loop-bind-test.true

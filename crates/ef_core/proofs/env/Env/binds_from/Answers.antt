use Rattle.std.proofs.Common.{sym, ◌∙◌}
use Rattle.ef_core.specs.Env.{bind_of}
use Rattle.ef_core.proofs.Lists.{mapped_at, push_before}
use Rattle.ef_core.proofs.env.Env.binds_from.Goals as goal

pub loop-place-preserved : goal.loop-place-preserved
loop-place-preserved c =
    push_before _ _ _ _ _ _ c.in_ok-push.ensures.items (mapped_at bind_of c.self.inside.vars.entries _ _ (sym c.in-Some.ensures.entry)) c.loop-place.invariant

use Rattle.std.proofs.Common.{arith, ap, ◌∙◌}
use Rattle.ef_core.specs.declared.literal.CoreVar.TheVariants.{Numbered}
use Rattle.ef_lower.proofs.Numbered.{one_more_variable}
use Rattle.ef_lower.proofs.values.draw_variables.Goals as goal

pub draw-requires : goal.draw-requires
draw-requires c = let drawn = c.loop.invariant.0 in omega (arith, c.requires)

pub loop-preserved : goal.loop-preserved
loop-preserved c =
    let drawn = c.draw.ensures in
    let before = c.loop.invariant.0 in (
      omega (arith, drawn.1),
      one_more_variable _ _ _ _ c.loop.counter c.in_ok-push.ensures.items c.loop.invariant.1 (drawn.0 ∙ ap Numbered before),
    )

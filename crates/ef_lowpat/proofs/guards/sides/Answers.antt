use Rattle.std.proofs.Common.{[], ◌∷◌, ◌++◌, ap, ◌∙◌}
use Rattle.ef_lowpat.proofs.Sides.{sides_are}
use Rattle.ef_lowpat.proofs.guards.sides.Goals as goal

pub returns : goal.returns
returns c =
    let first = c.in_ok-push.ensures.items ∙ ap (λ ss. ss ++ c.in_ok-step.field-0 ∷ []) c.in_ok-steps.ensures.items in
    sides_are c.args.tests.now _ _ _ c.in_ok-step.field-0 c.in_ok-step-2.field-0 _ _ (c.in_ok-push-2.ensures.items ∙ ap (λ ss. ss ++ c.in_ok-step-2.field-0 ∷ []) first) c.in_ok-step.ensures c.in_ok-step-2.ensures
    c.in_ok-left_sides.ensures c.in_ok-right_sides.ensures

use Rattle.std.proofs.Common.{◌≡◌, ◌<◌, [], ◌∷◌, length, map, vec_len, arith, ap, sym, ◌∙◌, subst}
use Rattle.std.proofs.lemmas.List.{map-append}
use Rattle.std.proofs.lemmas.Iterator.Adapters.{YieldsList-from_vec}
use Rattle.std.proofs.lemmas.Iterator.Consumers.{YieldsList-turn}
use Rattle.ef_core.specs.Fresh.{most_variables}
use Rattle.ef_core.specs.Plain.{plain_clause}
use Rattle.ef_lower.specs.Arms.{BindsAll, FinishesAll, plain_arm}
use Rattle.ef_lower.proofs.LoweredArms.{finishes_more}
use Rattle.ef_lower.proofs.Source.{each_get}
use Rattle.ef_lower.proofs.arms.finish_arms.Goals as goal

pub finish_arm-requires-clause-bound : goal.finish_arm-requires-clause-bound
finish_arm-requires-clause-bound c =
    let given = c.into_iter-arm-iterator.ensures.into_iter_gives in
    let counted : vec_len c.args.arms ≡ length c.args.arms.items = omega (arith, c.args.arms.ok.0) in
    let turn = YieldsList-turn (YieldsList-from_vec c.args.arms.items given.0 (given.1 ∙ counted)) c.loop-arm.yielded c.loop-arm.arm-iterator c.loop-arm.yielded_by c.next.result c.next.new.self c.in-Some.arm c.in-Some.is c.next.ensures.steps in
    each_get (λ a. BindsAll a.binds c.args.binds.now) c.args.arms.items _ c.in-Some.arm c.requires.bound turn.0 turn.1

pub finish_arm-requires-clause-enough : goal.finish_arm-requires-clause-enough
finish_arm-requires-clause-enough c =
    let given = c.into_iter-arm-iterator.ensures.into_iter_gives in
    let counted : vec_len c.args.arms ≡ length c.args.arms.items = omega (arith, c.args.arms.ok.0) in
    let turn = YieldsList-turn (YieldsList-from_vec c.args.arms.items given.0 (given.1 ∙ counted)) c.loop-arm.yielded c.loop-arm.arm-iterator c.loop-arm.yielded_by c.next.result c.next.new.self c.in-Some.arm c.in-Some.is c.next.ensures.steps in
    each_get (λ a. a.fresh < most_variables) c.args.arms.items _ c.in-Some.arm c.requires.enough turn.0 turn.1

pub loop-arm-preserved : goal.loop-arm-preserved
loop-arm-preserved c =
    let made = finishes_more c.args.binds.now (map plain_arm c.loop-arm.yielded) (map plain_clause c.loop-arm.clauses.items) (plain_arm c.in-Some.arm) (plain_clause c.in_ok-finish_arm.field-0) c.loop-arm.invariant.2 c.in_ok-finish_arm.ensures in (
      tt,
      tt,
      subst (λ l. FinishesAll c.args.binds.now l (map plain_clause c.push.new.self.items)) (sym (map-append plain_arm c.loop-arm.yielded (c.in-Some.arm ∷ [])))
          (subst (FinishesAll c.args.binds.now _) (sym (ap (map plain_clause) c.in_ok-push.ensures.items ∙ map-append plain_clause c.loop-arm.clauses.items (c.in_ok-finish_arm.field-0 ∷ []))) made),
    )

use Rattle.std.proofs.Common.{arith}
use Rattle.ef_lower.proofs.Renames.{env_push, not_yet, params_push}
use Rattle.ef_lower.proofs.binds.rename.Goals as goal

pub draw-var-requires : goal.draw-var-requires
draw-var-requires c = let before = c.loop-bind.invariant.drawn in let all = c.requires.enough in let small = c.loop-bind-test.true in omega arith

pub push-requires : goal.push-requires
push-requires c = not_yet _ _ c.args.binds.now _ _ _ c.requires.differ c.requires.new c.loop-bind-test.true c.loop-bind.invariant.bound

pub loop-bind-preserved : goal.loop-bind-preserved
loop-bind-preserved c =
    let before = c.loop-bind.invariant in
    let drawn = c.draw-var.ensures in
    record {
      drawn = let first = before.drawn in let next = drawn.1 in omega arith;
      vars = params_push c.args.binds.now _ _ _ _ c.loop-bind-test.true before.drawn drawn.0 _ _ _ c.in_ok-push-2.ensures.items before.vars;
      bound = env_push c.args.binds.now _ _ _ _ c.loop-bind-test.true before.drawn drawn.0 _ _ _ _ c.in_ok-push.ensures.ok before.bound;
    }

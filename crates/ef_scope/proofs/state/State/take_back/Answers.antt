use Rattle.std.proofs.Common.{◌≤◌, ◌∙◌, ap, length, sym, take, drop, arith}
use Rattle.std.proofs.lemmas.Grind.{common_steps}
use Rattle.ef_scope.specs.Marks.{mark_of}
use Rattle.ef_scope.specs.Trail.{mark_before}
use Rattle.ef_scope.proofs.TrailLaws.{back_once, front_stays}
use Rattle.ef_scope.proofs.state.State.take_back.Goals as goal

pub loop-self-preserved : goal.loop-self-preserved
loop-self-preserved c =
    let trail = c.pop.new.self.items in
    let enough : c.args.start ≤ length trail = grind (arith, common_steps) in
    record {
      front = sym (front_stays c.args.start trail c.in-Some.change enough) ∙ ap (take c.args.start) (sym c.in-Some.ensures.items) ∙ c.loop-self.invariant.front;
      marks = λ m. back_once c.args.start trail c.in-Some.change c.loop-self.self.marks c.set.new.self m enough (c.in_ok-set.ensures m)
          ∙ ap (λ l. mark_before (drop c.args.start l) m (mark_of c.loop-self.self.marks m)) (sym c.in-Some.ensures.items) ∙ c.loop-self.invariant.marks m;
    }

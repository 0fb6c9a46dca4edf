use Rattle.ef_scan.proofs.Parts.{passes_none, passes_more, passes_dot, passes_all}
use Rattle.ef_scan.proofs.Cursors.{step_shorter}
use Rattle.ef_scan.proofs.skip.skip.Goals as goal

pub loop-step-init : goal.loop-step-init
loop-step-init c = passes_none c.args.at c.requires

pub returns-then-is_end : goal.returns-then-is_end
returns-then-is_end c =
    let both = c.is_end.ensures.0 c.if-is_end.true in
    passes_dot c.args.at c.loop-step.behind c.in-Some.step.1 c.in-Some.step.0 c.loop-step.invariant c.in-Some.ensures.some both.0 both.1

pub loop-step-smaller : goal.loop-step-smaller
loop-step-smaller c = step_shorter c.loop-step.behind c.in-Some.step.1 c.in-Some.step.0 c.in-Some.ensures.some

pub loop-step-preserved : goal.loop-step-preserved
loop-step-preserved c =
    passes_more c.args.at c.loop-step.behind c.in-Some.step.1 c.in-Some.step.0 c.loop-step.invariant c.in-Some.ensures.some
    (λ d ends. let yes = c.is_end.ensures.1 (d, ends) in let never = c.if-is_end.false in cc (yes, never))

pub returns : goal.returns
returns c = passes_all c.args.at c.loop-step.behind c.loop-step.invariant c.in_default.ensures.none

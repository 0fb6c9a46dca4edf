use Rattle.std.proofs.Common.{chars, sym, ap}
use Rattle.ef_scan.proofs.Codings.{sought_none, sought_more}
use Rattle.ef_scan.proofs.Cursors.{step_shorter}
use Rattle.ef_scan.proofs.coding.has_coding.Goals as goal

pub loop-at-init : goal.loop-at-init
loop-at-init c = sought_none (chars c.args.text.now) c.new-at.result c.new-at.ensures.in_text (ap chars (sym c.new-at.ensures.rest))

pub loop-at-smaller : goal.loop-at-smaller
loop-at-smaller c = step_shorter c.loop-at.at c.in-Some.step.1 c.in-Some.step.0 c.in-Some.ensures.some

pub loop-at-preserved : goal.loop-at-preserved
loop-at-preserved c =
    sought_more (chars c.args.text.now) c.loop-at.at c.in-Some.step.1 c.in-Some.step.0 c.loop-at.invariant
    (λ k. let yes = c.is_coding_here.ensures.1 k in let never = c.if-is_coding_here.false in cc (yes, never)) c.in-Some.ensures.some

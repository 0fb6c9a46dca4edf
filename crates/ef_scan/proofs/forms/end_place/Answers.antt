use Rattle.std.proofs.Common.{ap}
use Rattle.ef_base.specs.Positions.{place_at}
use Rattle.ef_scan.proofs.Scanning.{ends_first, ends_more, ends_all}
use Rattle.ef_scan.proofs.Cursors.{step_shorter}
use Rattle.ef_scan.proofs.forms.end_place.Goals as goal

pub loop-step-init : goal.loop-step-init
loop-step-init c = ends_first c.args.text.now c.new-cursor.result c.new-cursor.ensures.rest c.new-cursor.ensures.position c.new-cursor.ensures.in_text

pub loop-step-smaller : goal.loop-step-smaller
loop-step-smaller c = step_shorter c.loop-step.cursor c.in-Some.step.1 c.in-Some.step.0 c.in-Some.ensures.some

pub loop-step-preserved : goal.loop-step-preserved
loop-step-preserved c = ends_more c.args.text.now c.loop-step.cursor c.in-Some.step.1 c.in-Some.step.0 c.loop-step.invariant c.in-Some.ensures.some

pub returns : goal.returns
returns c = ap (place_at c.args.file) (ends_all c.args.text.now c.loop-step.cursor c.loop-step.invariant c.in_default.ensures.none)

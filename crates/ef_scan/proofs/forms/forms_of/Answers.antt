use Rattle.std.proofs.Common.{arith}
use Rattle.ef_scan.specs.Cursors.{position_of}
use Rattle.ef_scan.proofs.Cursors.{step_shorter}
use Rattle.ef_scan.proofs.Scanning.{started, more_gathered, shorter, all_whole}
use Rattle.ef_scan.proofs.forms.forms_of.Goals as goal

pub parts-init : goal.parts-init
parts-init c =
    started c.args.names.now c.args.file c.args.text.now c.new-start.result c.run-white.result.behind c.run-white.result.count c.new-gathered.result c.new-start.ensures.rest c.new-start.ensures.position
    c.run-white.ensures c.new-gathered.ensures

pub place-place-requires-clause-some : goal.place-place-requires-clause-some
place-place-requires-clause-some c = omega (arith, step_shorter c.parts.cursor c.in-Some.first.1 c.in-Some.first.0 c.in-Some.ensures.some)

pub parts-smaller : goal.parts-smaller
parts-smaller c = shorter c.parts.cursor c.in_ok-found.found.behind c.run-gap.result.behind c.run-gap.result.count c.in_ok-found.found.part c.in_ok-found.ensures c.run-gap.ensures

pub parts-preserved : goal.parts-preserved
parts-preserved c =
    let at = c.in_ok-found.ensures in
    more_gathered c.args.names.now c.parts.names c.gather.new.names c.args.file c.args.text.now c.parts.cursor c.in_ok-found.found.behind c.run-gap.result.behind c.run-gap.result.count
    c.parts.gathered c.gather.new.gathered c.in_ok-found.found.part c.parts.invariant at c.run-gap.ensures c.in_ok-gather.ensures.kept c.in_ok-gather.ensures.differ
    (λ all ps later h. c.in_ok-gather.ensures.gathers all c.args.file ps at.is_part (position_of c.parts.cursor) later at.is c.place-place.ensures h)

pub returns-clause-forms : goal.returns-clause-forms
returns-clause-forms c =
    all_whole c.args.names.now c.parts.names c.args.file c.args.text.now c.parts.cursor c.parts.gathered c.finish.result c.utf8.text c.parts.invariant c.in_default.ensures.none c.finish.ensures

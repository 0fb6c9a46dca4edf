use Rattle.std.proofs.Common.{arith, ◌+◌, take, subst}
use Rattle.ef_base.specs.Characters.{Each}
use Rattle.ef_scan.specs.Cursors.{is_plain, test_of}
use Rattle.ef_scan.proofs.Cursors.{each_both, runs_none, runs_wide, runs_more, run_ends, runs_room, behind_room, step_shorter}
use Rattle.ef_scan.proofs.cursor.Cursor.run.Goals as goal

pub loop-next-init : goal.loop-next-init
loop-next-init c = runs_none (test_of c.args.class) c.args.self c.requires

pub behind-behind-requires-clause-plain : goal.behind-behind-requires-clause-plain
behind-behind-requires-clause-plain c =
    subst (λ t. Each is_plain (take c.plain_width-width.result t)) c.as_bytes.ensures.value
    (each_both is_plain (test_of c.args.class) (take c.plain_width-width.result c.as_bytes.result.now) c.plain_width-width.ensures.each).0

pub overflow_add-count : goal.overflow_add-count
overflow_add-count c =
    let wide = runs_wide c.args.class c.args.self c.loop-next.behind c.behind-behind.result c.as_bytes.result.now c.loop-next.count c.plain_width-width.result c.loop-next.invariant c.as_bytes.ensures.value c.plain_width-width.ensures.within
    c.plain_width-width.ensures.each c.behind-behind.ensures in
    let room = runs_room (test_of c.args.class) c.args.self c.behind-behind.result (c.loop-next.count + c.plain_width-width.result) wide in
    let inside = c.requires.lines in
    omega arith

pub returns-in_default : goal.returns-in_default
returns-in_default c =
    let wide = runs_wide c.args.class c.args.self c.loop-next.behind c.behind-behind.result c.as_bytes.result.now c.loop-next.count c.plain_width-width.result c.loop-next.invariant c.as_bytes.ensures.value c.plain_width-width.ensures.within
    c.plain_width-width.ensures.each c.behind-behind.ensures in
    run_ends (test_of c.args.class) c.args.self c.behind-behind.result (c.loop-next.count + c.plain_width-width.result) wide c.in_default.ensures.none

pub overflow_add-count-in-loop-next : goal.overflow_add-count-in-loop-next
overflow_add-count-in-loop-next c =
    let wide = runs_wide c.args.class c.args.self c.loop-next.behind c.behind-behind.result c.as_bytes.result.now c.loop-next.count c.plain_width-width.result c.loop-next.invariant c.as_bytes.ensures.value c.plain_width-width.ensures.within
    c.plain_width-width.ensures.each c.behind-behind.ensures in
    let more = runs_more (test_of c.args.class) c.args.self c.behind-behind.result c.in-Some.next (c.loop-next.count + c.plain_width-width.result) wide c.in-Some.ensures.some in
    let room = runs_room (test_of c.args.class) c.args.self c.in-Some.next ((c.loop-next.count + c.plain_width-width.result) + 1) more in
    let inside = c.requires.lines in
    omega arith

pub loop-next-smaller : goal.loop-next-smaller
loop-next-smaller c =
    let step = step_shorter c.behind-behind.result c.in-Some.next c.in-Some.ensures.some.0 c.in-Some.ensures.some.1 in
    let room = behind_room c.loop-next.behind c.behind-behind.result (take c.plain_width-width.result c.loop-next.behind.rest.now) c.behind-behind.ensures in
    omega arith

pub loop-next-preserved : goal.loop-next-preserved
loop-next-preserved c =
    let wide = runs_wide c.args.class c.args.self c.loop-next.behind c.behind-behind.result c.as_bytes.result.now c.loop-next.count c.plain_width-width.result c.loop-next.invariant c.as_bytes.ensures.value c.plain_width-width.ensures.within
    c.plain_width-width.ensures.each c.behind-behind.ensures in
    runs_more (test_of c.args.class) c.args.self c.behind-behind.result c.in-Some.next (c.loop-next.count + c.plain_width-width.result) wide c.in-Some.ensures.some

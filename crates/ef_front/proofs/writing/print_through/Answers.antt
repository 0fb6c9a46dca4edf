use Rattle.ef_core.specs.Layout.{text_of}
use Rattle.ef_core.specs.Plain.{plain_module}
use Rattle.ef_front.proofs.Pending.{handed_through}
use Rattle.ef_front.proofs.writing.print_through.Goals as goal

pub returns-clause-puts : goal.returns-clause-puts
returns-clause-puts g c =
    let seen = g.O.Sink.seen in
    let from = c.args.buffered.now in
    let printed = c.print.new.sink in
    let flushed = c.flush.new.self in
    let text = text_of c.args.names.now (plain_module c.args.module.now) in
    handed_through (seen from.sink.now) (seen printed.sink.now) (seen flushed.sink.now) from.sink.ghost_name printed.sink.ghost_name
    from.pending.items printed.pending.items flushed.pending.items from.handed printed.handed flushed.handed text c.flush.result
    c.requires.nothing_pending c.in_ok-print.ensures.puts c.flush.ensures.hands_on

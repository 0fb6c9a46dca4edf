use Rattle.std.proofs.Common.{rules, drop, subst}
use Rattle.ef_core.specs.Layout.{text_of}
use Rattle.ef_core.specs.Plain.{plain_module}
use Rattle.ef_front.specs.Buffered.{PutsThrough}
use Rattle.ef_front.proofs.Pending.{settled}
use Rattle.ef_front.proofs.writing.write_module.Goals as goal

pub returns-clause-puts : goal.returns-clause-puts
returns-clause-puts g c =
    let seen = g.O.Sink.seen in
    let printed = c.print_through-result.new.buffered in
    let text = text_of c.args.names.now (plain_module c.args.module.now) in
    let rest = drop printed.handed printed.pending.items in
    let put = subst (λ from. PutsThrough (seen from) (seen printed.sink.now) rest text c.print_through-result.result) c.new-buffered.ensures.same_sink c.print_through-result.ensures.puts in
    let told = settled (seen c.args.sink.now) (seen printed.sink.now) rest text c.print_through-result.result c.requires.holds_none put in
    search rules

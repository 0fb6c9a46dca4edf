use Rattle.ef_core.specs.Layout.{text_of}
use Rattle.ef_core.specs.Plain.{plain_module}
use Rattle.ef_front.proofs.Created.{produces}
use Rattle.ef_front.proofs.telling.produce.Goals as goal

pub returns : goal.returns
returns g c =
    produces c.args.out.now c.as_text.result.now (text_of c.args.lowered.names (plain_module c.args.lowered.«module»)) (g.O.Sink.seen c.args.output.now) (g.O.Sink.seen c.create.new.self) (g.O.Sink.seen c.write_module.new.sink)
    c.write_module.result c.as_text.ensures c.in_ok-create.ensures.creates c.in_ok-create.ensures.cause c.write_module.ensures.stays c.write_module.ensures.puts c.write_module.ensures.cause

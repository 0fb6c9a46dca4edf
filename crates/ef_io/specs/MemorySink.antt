-- What a sink in memory shows.
use Rattle.std.specs.Prelude.{None, Some, true}
use Rattle.ef_io.specs.Sink.{SinkView}
use Rattle.ef_io.specs.declared.memory_sink.MemorySink.{MemorySink}

abbrev pub sink_view : MemorySink → SinkView
sink_view m = record { written = Some m.store.bytes.items; room = None; faults = m.store.faults; is_open = true; created = None }

-- What the steady forms show, and when a write on them is refused.
use Rattle.std.specs.Prelude.{ℕ, ◌-◌, ◌<◌, ◌≡◌, List, length, min, Option, None, Some, true, Result, Ok, Err}
use Rattle.ef_io.specs.declared.sink.Failed.{Failed}
use Rattle.ef_io.specs.declared.steady.SteadySink.{SteadySink}
use Rattle.ef_io.specs.declared.steady.SteadySources.{SteadySources}
use Rattle.ef_io.specs.MemorySources.{files_of}
use Rattle.ef_io.specs.Sink.{SinkView}
use Rattle.ef_io.specs.Sources.{SourcesView}

-- no call of it ever failed
abbrev pub sources_view : SteadySources → SourcesView
sources_view it = record { files = Some (files_of it.files.items); faults = 0; failed = None }

-- the room that is left
abbrev pub room_left : SteadySink → ℕ
room_left it = it.room - length it.bytes.items

abbrev pub sink_view : SteadySink → SinkView
sink_view it = record { written = Some it.bytes.items; room = Some (room_left it); faults = it.faults; is_open = true; created = None }

-- a write takes what fits; it is refused where there is a byte to write and no room at all
abbrev pub TakesSteadily : ℕ → List ℕ → Result ℕ Failed → Type 0
TakesSteadily room piece (Ok n) = n ≡ min (length piece) room
TakesSteadily room piece (Err _) = (0 < length piece) × (room ≡ 0)

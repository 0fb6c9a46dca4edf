use Rattle.std.proofs.Common.{◌≡◌, true, length, IsUtf8, Result}
use Rattle.std.specs.Prelude.{flat_map}
use Rattle.std.specs.Str.{chars}
use Rattle.ef_core.specs.Pieces.{escaped}
use Rattle.ef_io.specs.declared.sink.Failed.{Failed}
use Rattle.ef_io.specs.Sink.{SinkView}
use Rattle.ef_print.specs.Prints.{Appends}
use Rattle.ef_print.proofs.escape.write_escaped.Given as goal

abbrev pub invariant-loop-step : goal.invariant-loop-step
invariant-loop-step g l =
    IsUtf8 l.rest
    × ((g.G.Sink.seen l.sink).is_open ≡ true)
    × ((new : SinkView) (now : Result Unit Failed) → Appends (g.G.Sink.seen l.sink) l.so_far (flat_map escaped (chars l.rest)) new now
    → Appends (g.G.Sink.seen l.fn.sink) l.fn.so_far (flat_map escaped (chars l.fn.text)) new now)

abbrev pub decreases-loop-step : goal.decreases-loop-step
decreases-loop-step g l = length l.rest

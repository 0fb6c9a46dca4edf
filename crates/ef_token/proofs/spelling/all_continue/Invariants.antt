use Rattle.std.proofs.Common.{length, chars}
use Rattle.std.specs.Prelude.{IsUtf8}
use Rattle.ef_token.proofs.Names.{GoesOn}
use Rattle.ef_token.proofs.spelling.all_continue.Given as goal

abbrev pub invariant-loop-step : goal.invariant-loop-step
invariant-loop-step l = IsUtf8 l.rest × GoesOn (chars l.fn.text) (chars l.rest)

abbrev pub decreases-loop-step : goal.decreases-loop-step
decreases-loop-step l = length l.rest

use Rattle.std.proofs.Common.{length, chars, ◌≡◌, ◌++◌, ◌∷◌}
use Rattle.std.specs.Prelude.{flat_map, IsUtf8}
use Rattle.ef_token.specs.Spelling.{Keeps, escaped}
use Rattle.ef_token.proofs.spelling.spell_atom.Given as goal

abbrev pub invariant-loop-step : goal.invariant-loop-step
invariant-loop-step l = IsUtf8 l.rest × (l.into.items ++ flat_map (escaped 39) (chars l.rest) ≡ l.fn.into.items ++ 39 ∷ flat_map (escaped 39) (chars l.fn.text)) × Keeps l.fn.into.items l.into.items

abbrev pub decreases-loop-step : goal.decreases-loop-step
decreases-loop-step l = length l.rest

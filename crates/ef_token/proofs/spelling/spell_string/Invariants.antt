use Rattle.std.proofs.Common.{take, ◌≡◌, ◌++◌, ◌∷◌}
use Rattle.std.specs.Prelude.{flat_map}
use Rattle.ef_token.specs.Spelling.{Keeps, escaped}
use Rattle.ef_token.proofs.spelling.spell_string.Given as goal

abbrev pub invariant-loop-code : goal.invariant-loop-code
invariant-loop-code l = (l.into.items ≡ l.fn.into.items ++ 34 ∷ flat_map (escaped 34) (take l.code-index l.codes)) × Keeps l.fn.into.items l.into.items

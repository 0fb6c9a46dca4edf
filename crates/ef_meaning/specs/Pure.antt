-- The functions of `erlang` that are pure, as far as they are built: `=:=`, which compares two values.
use Rattle.std.specs.Prelude.{ℕ, ◌&&◌, codes, bytes_eq, if◌then◌else◌, List, [], ◌∷◌, Option, Some, None}
use Rattle.ef_meaning.specs.Value.{Value, truth}
use Rattle.ef_meaning.specs.Same.{same_value}

abbrev pub compares : List Value → Option Value
compares (u ∷ v ∷ []) = Some (truth (same_value u v))
compares _ = None

-- what the function of this module and name gives for these arguments, where it is pure
abbrev pub pure : List ℕ → List ℕ → List Value → Option Value
pure m f vs = if bytes_eq m (codes "erlang") && bytes_eq f (codes "=:=") then compares vs else None

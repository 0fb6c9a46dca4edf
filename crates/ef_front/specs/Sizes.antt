-- How deep and how heavy some trees are, as far as it is counted.
use Rattle.std.specs.Prelude.{ℕ, ◌+◌, ◌^◌, ◌-◌, min, max, nat_lt, Bool, ◌||◌}
use Rattle.ef_forms.specs.Depth.{function_depth}
use Rattle.ef_forms.specs.Tree.{FunctionTree}
use Rattle.ef_forms.specs.Weight.{function_weight}
use Rattle.ef_front.specs.Source.{most_depth, most_weight}
use Rattle.ef_front.specs.declared.sizes.Size.{Size}

abbrev pub is_too_large : FunctionTree → Bool
is_too_large f = nat_lt most_depth (function_depth f) || nat_lt most_weight (function_weight f)

-- of this depth and weight
abbrev pub size : ℕ → ℕ → Size
size depth weight = record { depth = min depth (2 ^ 32 - 1); weight = min weight (2 ^ 22 + 1) }

abbrev pub joined : Size → Size → Size
joined s t = record { depth = max s.depth t.depth; weight = min (s.weight + t.weight) (2 ^ 22 + 1) }

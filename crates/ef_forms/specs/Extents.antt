-- How deep some nodes lie and how many they are, one after another.
use Rattle.std.specs.Prelude.{ℕ, ◌+◌, ◌^◌, min, max}
use Rattle.ef_forms.specs.declared.measure.Extent.{Extent}
use Rattle.ef_forms.specs.Nodes.{SeenTree}

abbrev pub with_level : Extent → ℕ → Extent
with_level m l = record { depth = max m.depth l; weight = min (m.weight + 1) (2 ^ 22 + 1) }

abbrev pub with_node : Extent → SeenTree → Extent
with_node m s = with_level m s.level

-- What references to nodes show.
use Rattle.std.specs.Prelude.{List, map, length}
use Rattle.std.specs.Option.{option_map}
use Rattle.ef_forms.specs.declared.expr.Clause.{Clause, out-Clause}
use Rattle.ef_forms.specs.declared.expr.Segment.{Segment, out-Segment}
use Rattle.ef_forms.specs.declared.walk.Seen.{Seen}
use Rattle.ef_forms.specs.Nodes.{SeenTree, seen}
use Rattle.ef_forms.specs.Plain.{plain}
use Rattle.ef_forms.specs.Views.{SegmentTree, HeadTree}

abbrev pub show_segment : Segment → SegmentTree
show_segment s = record { place = (out-Segment s).place; value = plain (out-Segment s).value; size = option_map plain (out-Segment s).size; types = (out-Segment s).types.items }

abbrev pub show_head : Clause → HeadTree
show_head c = record { place = (out-Clause c).place; parameters = length (out-Clause c).patterns.items }

abbrev pub show : Seen → SeenTree
show s = seen s.role s.level (plain s.expr.now)

abbrev pub shown : List Seen → List SeenTree
shown = map show

-- What is measured node by node is the depth and the weight of the tree, as far as they are counted.
use Rattle.std.proofs.Common.{ℕ, ◌≡◌, ◌+◌, ◌-◌, ◌^◌, ◌≤◌, List, [], ◌∷◌, length, min, max, arith}
use Rattle.std.specs.List.{fold}
use Rattle.std.proofs.lemmas.Grind.{fold-append}
use Rattle.ef_forms.specs.declared.expr.Node.{the_lemmas}
use Rattle.ef_forms.specs.declared.measure.Extent.{Extent}
use Rattle.ef_forms.specs.declared.role.Role.{Role}
use Rattle.ef_forms.specs.Depth.{depth}
use Rattle.ef_forms.specs.Extents.{with_node}
use Rattle.ef_forms.specs.Nodes.{SeenTree, nodes}
use Rattle.ef_forms.specs.Tree.{Tree}
use Rattle.ef_forms.specs.Weight.{weight}
use Rattle.ef_forms.proofs.Measured.{greatest_level, deepest, counted}
use Rattle.ef_forms.proofs.Opened.{opened_shape}
use Rattle.ef_forms.proofs.Plain.{plain_one_catch, plain_one_segment, plain_one_step, plain_one_field, plain_list_from, plain_bits_from, plain_filter}

greatest_of : (ss : List SeenTree) (m : Extent) → (fold with_node m ss).depth ≡ max m.depth (greatest_level ss)
greatest_of [] m = omega arith
greatest_of (s ∷ ss) m = let rest = greatest_of ss (with_node m s) in omega (arith, rest)

number_of : (ss : List SeenTree) (m : Extent) → m.weight ≤ 2 ^ 22 + 1 → (fold with_node m ss).weight ≡ min (m.weight + length ss) (2 ^ 22 + 1)
number_of [] m h = omega arith
number_of (s ∷ ss) m h = let rest = number_of ss (with_node m s) (omega arith) in omega (arith, rest)

pub depth_of : (r : Role) (e : Tree) (m : Extent) → (fold with_node m (nodes r 1 e)).depth ≡ max m.depth (min (depth e) (2 ^ 32 - 1))
depth_of r e m = omega (arith, greatest_of (nodes r 1 e) m, deepest r 1 e (omega arith) (omega arith))

pub weight_of : (r : Role) (l : ℕ) (e : Tree) (m : Extent) → m.weight ≤ 2 ^ 22 + 1 → (fold with_node m (nodes r l e)).weight ≡ min (m.weight + weight e) (2 ^ 22 + 1)
weight_of r l e m h = omega (arith, number_of (nodes r l e) m h, counted r l e)

pub ruleset laws = (opened_shape, the_lemmas, fold-append, plain_one_catch, plain_one_segment, plain_one_step, plain_one_field, plain_list_from, plain_bits_from, plain_filter)

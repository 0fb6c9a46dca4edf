-- A tree is one deep at least, and so are several where there is one.
use Rattle.std.proofs.Common.{ℕ, ◌≤◌, arith}
use Rattle.ef_forms.specs.Tree.{Tree, Trees, tree, any, end, more, count}
use Rattle.ef_forms.specs.Depth.{depth, all_depth}

pub some_depth : (e : Tree) → 1 ≤ depth e
some_depth (tree p any) = omega arith
some_depth (tree p _) = omega arith

pub some_depths : (es : Trees) → 1 ≤ count es → 1 ≤ all_depth es
some_depths end some = absurd (omega arith)
some_depths (more e es) some = let one = some_depth e in omega arith

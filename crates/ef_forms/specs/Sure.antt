-- The names that an expression always binds, as far as trees are built: they are bound behind it, wherever it has a
-- value. A name that is used is bound there, too.
use Rattle.ef_forms.specs.Tree.{Tree, Shape, Trees, Clauses, tree, var, list, list_to, tuple, matching, call, remote, case_of, end, more, no_clauses, clause}
use Rattle.ef_forms.specs.Ways.{NameSet, no_names, one_name, union, common, names, all_names}

abbrev mutual
  pub sure : Tree → NameSet
  sure (tree p e) = shape_sure e

  pub shape_sure : Shape → NameSet
  shape_sure (var n) = one_name n
  shape_sure (list es) = all_sure es
  shape_sure (list_to es e) = union (all_sure es) (sure e)
  shape_sure (tuple es) = all_sure es
  shape_sure (matching p e) = union (sure e) (names p)
  shape_sure (call f es) = union (sure f) (all_sure es)
  shape_sure (remote m f es) = union (sure m) (union (sure f) (all_sure es))
  shape_sure (case_of e cs) = union (sure e) (clauses_sure cs)
  shape_sure _ = no_names

  -- one after another, or side by side
  pub all_sure : Trees → NameSet
  all_sure end = no_names
  all_sure (more e es) = union (sure e) (all_sure es)

  -- the names that every clause binds, by its patterns or by its body
  pub clauses_sure : Clauses → NameSet
  clauses_sure no_clauses = no_names
  clauses_sure (clause p ps g body no_clauses) = union (all_names ps) (all_sure body)
  clauses_sure (clause p ps g body (clause q qs h d cs)) = common (union (all_names ps) (all_sure body)) (clauses_sure (clause q qs h d cs))

-- What an expression adds on some way and on every way.
use Rattle.std.proofs.Common.{◌≡◌, sym}
use Rattle.std.specs.Prelude.{List, true, ◌||◌}
use Rattle.std.specs.List.{flat_map}
use Rattle.ef_base.specs.declared.name.Name.{Name}
use Rattle.ef_forms.specs.Tree.{Tree, Shape, Trees, Clauses, tree, var, list, list_to, tuple, matching, call, remote, case_of, end, more, no_clauses, clause}
use Rattle.ef_forms.specs.Ways.{NameSet, no_names, one_name, union, Way, bind, before, names, all_names, ways, shape_ways, side_by_side, body_ways, clauses_ways, on_some, on_all}
use Rattle.ef_forms.specs.Sure.{sure, shape_sure, all_sure, clauses_sure}
use Rattle.ef_forms.proofs.Bools.{or_false}
use Rattle.ef_forms.proofs.Growth.{given, Grows, grows_stay, grows_bind, grows_before, grows_or_else, grows_beside, grows_same, after_given, after_some, after_all}

-- the names that an expression binds on some way
abbrev mutual
  pub may : Tree → NameSet
  may (tree p e) = shape_may e

  pub shape_may : Shape → NameSet
  shape_may (var n) = one_name n
  shape_may (list es) = all_may es
  shape_may (list_to es e) = union (all_may es) (may e)
  shape_may (tuple es) = all_may es
  shape_may (matching p e) = union (may e) (names p)
  shape_may (call f es) = union (may f) (all_may es)
  shape_may (remote m f es) = union (may m) (union (may f) (all_may es))
  shape_may (case_of e cs) = union (may e) (clauses_may cs)
  shape_may _ = no_names

  -- one after another, or side by side
  pub all_may : Trees → NameSet
  all_may end = no_names
  all_may (more e es) = union (may e) (all_may es)

  -- the names that some clause binds
  pub clauses_may : Clauses → NameSet
  clauses_may no_clauses = no_names
  clauses_may (clause p ps g body cs) = union (union (all_names ps) (all_may body)) (clauses_may cs)

-- the ways of a clause
abbrev pub clause_ways : Trees → Trees → Way
clause_ways ps body = before (bind (all_names ps)) (body_ways body)

mutual
  pub grows_ways : (e : Tree) → Grows (ways e) (may e) (sure e)
  grows_ways (tree p e) = grows_shape e

  pub grows_shape : (e : Shape) → Grows (shape_ways e) (shape_may e) (shape_sure e)
  grows_shape (var n) = grows_bind (one_name n)
  grows_shape (list es) = grows_side es
  grows_shape (list_to es e) = grows_beside _ _ _ _ _ _ (grows_side es) (grows_ways e)
  grows_shape (tuple es) = grows_side es
  grows_shape (matching p e) = grows_before _ _ _ _ _ _ (grows_ways e) (grows_bind (names p))
  grows_shape (call f es) = grows_beside _ _ _ _ _ _ (grows_ways f) (grows_side es)
  grows_shape (remote m f es) = grows_beside _ _ _ _ _ _ (grows_ways m) (grows_beside _ _ _ _ _ _ (grows_ways f) (grows_side es))
  grows_shape (case_of e cs) = grows_before _ _ _ _ _ _ (grows_ways e) (grows_clauses cs)
  grows_shape _ = grows_stay

  pub grows_side : (es : Trees) → Grows (side_by_side es) (all_may es) (all_sure es)
  grows_side end = grows_stay
  grows_side (more e es) = grows_beside _ _ _ _ _ _ (grows_ways e) (grows_side es)

  pub grows_body : (es : Trees) → Grows (body_ways es) (all_may es) (all_sure es)
  grows_body end = grows_stay
  grows_body (more e es) = grows_before _ _ _ _ _ _ (grows_ways e) (grows_body es)

  pub grows_clauses : (cs : Clauses) → Grows (clauses_ways cs) (clauses_may cs) (clauses_sure cs)
  grows_clauses no_clauses = grows_stay
  grows_clauses (clause p ps g body no_clauses) = grows_same _ _ _ _ (grows_before _ _ _ _ _ _ (grows_bind (all_names ps)) (grows_body body)) (λ x. sym (or_false (all_names ps x.index || all_may body x.index)))
  grows_clauses (clause p ps g body (clause q qs h d cs)) =
      grows_or_else _ _ _ _ _ _ (grows_before _ _ _ _ _ _ (grows_bind (all_names ps)) (grows_body body)) (grows_clauses (clause q qs h d cs))

pub grows_clause : (ps body : Trees) → Grows (clause_ways ps body) (union (all_names ps) (all_may body)) (union (all_names ps) (all_sure body))
grows_clause ps body = grows_before _ _ _ _ _ _ (grows_bind (all_names ps)) (grows_body body)

-- ---- from a list of sets

module _ (sets : List NameSet) (start : given sets ≡ true) where
  pub given_ways : (e : Tree) → given (flat_map (ways e) sets) ≡ true
  given_ways e = after_given _ _ _ (grows_ways e) sets start

  pub some_ways : (e : Tree) (x : Name) → on_some x (flat_map (ways e) sets) ≡ (on_some x sets || may e x.index)
  some_ways e = after_some _ _ _ (grows_ways e) sets start

  pub all_ways : (e : Tree) (x : Name) → on_all x (flat_map (ways e) sets) ≡ (on_all x sets || sure e x.index)
  all_ways e = after_all _ _ _ (grows_ways e) sets start

  pub given_side : (es : Trees) → given (flat_map (side_by_side es) sets) ≡ true
  given_side es = after_given _ _ _ (grows_side es) sets start

  pub some_side : (es : Trees) (x : Name) → on_some x (flat_map (side_by_side es) sets) ≡ (on_some x sets || all_may es x.index)
  some_side es = after_some _ _ _ (grows_side es) sets start

  pub all_side : (es : Trees) (x : Name) → on_all x (flat_map (side_by_side es) sets) ≡ (on_all x sets || all_sure es x.index)
  all_side es = after_all _ _ _ (grows_side es) sets start

  pub given_body : (es : Trees) → given (flat_map (body_ways es) sets) ≡ true
  given_body es = after_given _ _ _ (grows_body es) sets start

  pub some_body : (es : Trees) (x : Name) → on_some x (flat_map (body_ways es) sets) ≡ (on_some x sets || all_may es x.index)
  some_body es = after_some _ _ _ (grows_body es) sets start

  pub all_body : (es : Trees) (x : Name) → on_all x (flat_map (body_ways es) sets) ≡ (on_all x sets || all_sure es x.index)
  all_body es = after_all _ _ _ (grows_body es) sets start

  pub given_clauses : (cs : Clauses) → given (flat_map (clauses_ways cs) sets) ≡ true
  given_clauses cs = after_given _ _ _ (grows_clauses cs) sets start

  pub some_clauses : (cs : Clauses) (x : Name) → on_some x (flat_map (clauses_ways cs) sets) ≡ (on_some x sets || clauses_may cs x.index)
  some_clauses cs = after_some _ _ _ (grows_clauses cs) sets start

  pub all_clauses : (cs : Clauses) (x : Name) → on_all x (flat_map (clauses_ways cs) sets) ≡ (on_all x sets || clauses_sure cs x.index)
  all_clauses cs = after_all _ _ _ (grows_clauses cs) sets start

  pub given_bind : (t : NameSet) → given (flat_map (bind t) sets) ≡ true
  given_bind t = after_given _ _ _ (grows_bind t) sets start

  pub some_bind : (t : NameSet) (x : Name) → on_some x (flat_map (bind t) sets) ≡ (on_some x sets || t x.index)
  some_bind t = after_some _ _ _ (grows_bind t) sets start

  pub all_bind : (t : NameSet) (x : Name) → on_all x (flat_map (bind t) sets) ≡ (on_all x sets || t x.index)
  all_bind t = after_all _ _ _ (grows_bind t) sets start

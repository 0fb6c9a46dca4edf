-- The depth of a tree: its greatest nesting. A node without parts is one deep, another is one deeper than its deepest part.
-- What follows a step of `maybe` that matches, or a qualifier, is one deeper than that.
use Rattle.std.specs.Prelude.{ℕ, ◌+◌, max}
use Rattle.ef_forms.specs.Tree.{Tree, Shape, Trees, Guards, Clauses, MaybeClauses, MaybeTrees, Catches, Segments, Fields, Steps, Qualifiers, FunctionTree, tree, int, character, string, atom, var, any, list, list_to, tuple, binary, unary, operation, and_also, or_else, matching, catching, call, remote, record_new, record_update, record_field, record_index, block, if_of, case_of, receive_of, receive_after, try_of, maybe, list_comp, bin_comp, fun_local, fun_remote, fun_of, named_fun, end, more, no_guard, or_guard, no_clauses, clause, left_out, these, absent, present, no_catches, catches, no_segments, segment, sized, no_fields, field, no_steps, step, step_to, no_qualifiers, list_from, bits_from, filter}

abbrev pub qualifier_count : Qualifiers → ℕ
qualifier_count no_qualifiers = 0
qualifier_count (list_from p e strict qs) = 1 + qualifier_count qs
qualifier_count (bits_from p e strict qs) = 1 + qualifier_count qs
qualifier_count (filter e qs) = 1 + qualifier_count qs

abbrev mutual
  pub depth : Tree → ℕ
  depth (tree p e) = shape_depth e

  pub shape_depth : Shape → ℕ
  shape_depth (int i) = 1
  shape_depth (character c) = 1
  shape_depth (string cs) = 1
  shape_depth (atom n) = 1
  shape_depth (var n) = 1
  shape_depth any = 1
  shape_depth (list es) = 1 + all_depth es
  shape_depth (list_to es e) = 1 + max (all_depth es) (depth e)
  shape_depth (tuple es) = 1 + all_depth es
  shape_depth (binary ss) = 1 + segments_depth ss
  shape_depth (unary o e) = 1 + depth e
  shape_depth (operation o l r) = 1 + max (depth l) (depth r)
  shape_depth (and_also l r) = 1 + max (depth l) (depth r)
  shape_depth (or_else l r) = 1 + max (depth l) (depth r)
  shape_depth (matching p e) = 1 + max (depth p) (depth e)
  shape_depth (catching e) = 1 + depth e
  shape_depth (call f es) = 1 + max (depth f) (all_depth es)
  shape_depth (remote m f es) = 1 + max (depth m) (max (depth f) (all_depth es))
  shape_depth (record_new n fs) = 1 + fields_depth fs
  shape_depth (record_update e n fs) = 1 + max (depth e) (fields_depth fs)
  shape_depth (record_field e n f) = 1 + depth e
  shape_depth (record_index n f) = 1
  shape_depth (block es) = 1 + all_depth es
  shape_depth (if_of cs) = 1 + clauses_depth cs
  shape_depth (case_of e cs) = 1 + max (depth e) (clauses_depth cs)
  shape_depth (receive_of cs) = 1 + clauses_depth cs
  shape_depth (receive_after cs e es) = 1 + max (clauses_depth cs) (max (depth e) (all_depth es))
  shape_depth (try_of es cs ks after) = 1 + max (all_depth es) (max (maybe_clauses_depth cs) (max (catches_depth ks) (maybe_body_depth after)))
  shape_depth (maybe ss cs) = 1 + max (steps_depth ss) (maybe_clauses_depth cs)
  shape_depth (list_comp e qs) = 1 + max (qualifiers_depth qs) (qualifier_count qs + depth e)
  shape_depth (bin_comp e qs) = 1 + max (qualifiers_depth qs) (qualifier_count qs + depth e)
  shape_depth (fun_local n arity) = 1
  shape_depth (fun_remote m f arity) = 1 + max (depth m) (max (depth f) (depth arity))
  shape_depth (fun_of cs) = 1 + clauses_depth cs
  shape_depth (named_fun n cs) = 1 + clauses_depth cs

  -- the greatest of several, 0 for none
  pub all_depth : Trees → ℕ
  all_depth end = 0
  all_depth (more e es) = max (depth e) (all_depth es)

  pub guards_depth : Guards → ℕ
  guards_depth no_guard = 0
  guards_depth (or_guard es gs) = max (all_depth es) (guards_depth gs)

  -- clauses are no level of their own
  pub clauses_depth : Clauses → ℕ
  clauses_depth no_clauses = 0
  clauses_depth (clause p ps g body cs) = max (all_depth ps) (max (guards_depth g) (max (all_depth body) (clauses_depth cs)))

  pub maybe_clauses_depth : MaybeClauses → ℕ
  maybe_clauses_depth left_out = 0
  maybe_clauses_depth (these cs) = clauses_depth cs

  pub maybe_body_depth : MaybeTrees → ℕ
  maybe_body_depth absent = 0
  maybe_body_depth (present es) = all_depth es

  pub catches_depth : Catches → ℕ
  catches_depth no_catches = 0
  catches_depth (catches p class e trace g body ks) = max (depth e) (max (guards_depth g) (max (all_depth body) (catches_depth ks)))

  pub segments_depth : Segments → ℕ
  segments_depth no_segments = 0
  segments_depth (segment p e ws ss) = max (depth e) (segments_depth ss)
  segments_depth (sized p e n ws ss) = max (depth e) (max (depth n) (segments_depth ss))

  pub fields_depth : Fields → ℕ
  fields_depth no_fields = 0
  fields_depth (field p n e fs) = max (depth e) (fields_depth fs)

  pub steps_depth : Steps → ℕ
  steps_depth no_steps = 0
  steps_depth (step e ss) = max (depth e) (steps_depth ss)
  steps_depth (step_to p e ss) = max (depth p) (max (depth e) (1 + steps_depth ss))

  -- what follows a qualifier is one deeper, and so is the head behind each of them
  pub qualifiers_depth : Qualifiers → ℕ
  qualifiers_depth no_qualifiers = 0
  qualifiers_depth (list_from p e strict qs) = max (depth p) (max (depth e) (1 + qualifiers_depth qs))
  qualifiers_depth (bits_from p e strict qs) = max (depth p) (max (depth e) (1 + qualifiers_depth qs))
  qualifiers_depth (filter e qs) = max (depth e) (1 + qualifiers_depth qs)

abbrev pub function_depth : FunctionTree → ℕ
function_depth f = clauses_depth f.clauses

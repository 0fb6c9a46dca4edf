-- The weight of a tree: the number of its nodes.
use Rattle.std.specs.Prelude.{ℕ, ◌+◌}
use Rattle.ef_forms.specs.Tree.{Tree, Shape, Trees, Guards, Clauses, MaybeClauses, MaybeTrees, Catches, Segments, Fields, Steps, Qualifiers, FunctionTree, tree, int, character, string, atom, var, any, list, list_to, tuple, binary, unary, operation, and_also, or_else, matching, catching, call, remote, record_new, record_update, record_field, record_index, block, if_of, case_of, receive_of, receive_after, try_of, maybe, list_comp, bin_comp, fun_local, fun_remote, fun_of, named_fun, end, more, no_guard, or_guard, no_clauses, clause, left_out, these, absent, present, no_catches, catches, no_segments, segment, sized, no_fields, field, no_steps, step, step_to, no_qualifiers, list_from, bits_from, filter}

abbrev mutual
  pub weight : Tree → ℕ
  weight (tree p e) = shape_weight e

  pub shape_weight : Shape → ℕ
  shape_weight (int i) = 1
  shape_weight (character c) = 1
  shape_weight (string cs) = 1
  shape_weight (atom n) = 1
  shape_weight (var n) = 1
  shape_weight any = 1
  shape_weight (list es) = 1 + all_weight es
  shape_weight (list_to es e) = 1 + (all_weight es + weight e)
  shape_weight (tuple es) = 1 + all_weight es
  shape_weight (binary ss) = 1 + segments_weight ss
  shape_weight (unary o e) = 1 + weight e
  shape_weight (operation o l r) = 1 + (weight l + weight r)
  shape_weight (and_also l r) = 1 + (weight l + weight r)
  shape_weight (or_else l r) = 1 + (weight l + weight r)
  shape_weight (matching p e) = 1 + (weight p + weight e)
  shape_weight (catching e) = 1 + weight e
  shape_weight (call f es) = 1 + (weight f + all_weight es)
  shape_weight (remote m f es) = 1 + (weight m + (weight f + all_weight es))
  shape_weight (record_new n fs) = 1 + fields_weight fs
  shape_weight (record_update e n fs) = 1 + (weight e + fields_weight fs)
  shape_weight (record_field e n f) = 1 + weight e
  shape_weight (record_index n f) = 1
  shape_weight (block es) = 1 + all_weight es
  shape_weight (if_of cs) = 1 + clauses_weight cs
  shape_weight (case_of e cs) = 1 + (weight e + clauses_weight cs)
  shape_weight (receive_of cs) = 1 + clauses_weight cs
  shape_weight (receive_after cs e es) = 1 + (clauses_weight cs + (weight e + all_weight es))
  shape_weight (try_of es cs ks after) = 1 + (all_weight es + (maybe_clauses_weight cs + (catches_weight ks + maybe_body_weight after)))
  shape_weight (maybe ss cs) = 1 + (steps_weight ss + maybe_clauses_weight cs)
  shape_weight (list_comp e qs) = 1 + (qualifiers_weight qs + weight e)
  shape_weight (bin_comp e qs) = 1 + (qualifiers_weight qs + weight e)
  shape_weight (fun_local n arity) = 1
  shape_weight (fun_remote m f arity) = 1 + (weight m + (weight f + weight arity))
  shape_weight (fun_of cs) = 1 + clauses_weight cs
  shape_weight (named_fun n cs) = 1 + clauses_weight cs

  pub all_weight : Trees → ℕ
  all_weight end = 0
  all_weight (more e es) = weight e + all_weight es

  pub guards_weight : Guards → ℕ
  guards_weight no_guard = 0
  guards_weight (or_guard es gs) = all_weight es + guards_weight gs

  -- clauses are no nodes of their own
  pub clauses_weight : Clauses → ℕ
  clauses_weight no_clauses = 0
  clauses_weight (clause p ps g body cs) = all_weight ps + (guards_weight g + (all_weight body + clauses_weight cs))

  pub maybe_clauses_weight : MaybeClauses → ℕ
  maybe_clauses_weight left_out = 0
  maybe_clauses_weight (these cs) = clauses_weight cs

  pub maybe_body_weight : MaybeTrees → ℕ
  maybe_body_weight absent = 0
  maybe_body_weight (present es) = all_weight es

  pub catches_weight : Catches → ℕ
  catches_weight no_catches = 0
  catches_weight (catches p class e trace g body ks) = weight e + (guards_weight g + (all_weight body + catches_weight ks))

  pub segments_weight : Segments → ℕ
  segments_weight no_segments = 0
  segments_weight (segment p e ws ss) = weight e + segments_weight ss
  segments_weight (sized p e n ws ss) = weight e + (weight n + segments_weight ss)

  pub fields_weight : Fields → ℕ
  fields_weight no_fields = 0
  fields_weight (field p n e fs) = weight e + fields_weight fs

  pub steps_weight : Steps → ℕ
  steps_weight no_steps = 0
  steps_weight (step e ss) = weight e + steps_weight ss
  steps_weight (step_to p e ss) = weight p + (weight e + steps_weight ss)

  pub qualifiers_weight : Qualifiers → ℕ
  qualifiers_weight no_qualifiers = 0
  qualifiers_weight (list_from p e strict qs) = weight p + (weight e + qualifiers_weight qs)
  qualifiers_weight (bits_from p e strict qs) = weight p + (weight e + qualifiers_weight qs)
  qualifiers_weight (filter e qs) = weight e + qualifiers_weight qs

abbrev pub function_weight : FunctionTree → ℕ
function_weight f = clauses_weight f.clauses

-- Depth and weight of a tree do not know its names.
use Rattle.std.proofs.Common.{◌≡◌, ◌+◌, ℕ, max, refl, ap, ap₂}
use Rattle.ef_base.specs.declared.name.Name.{Name}
use Rattle.ef_forms.specs.Depth.{qualifier_count, depth, shape_depth, all_depth, guards_depth, clauses_depth, maybe_clauses_depth, maybe_body_depth, catches_depth, segments_depth, fields_depth, steps_depth, qualifiers_depth, function_depth}
use Rattle.ef_forms.specs.Weight.{weight, shape_weight, all_weight, guards_weight, clauses_weight, maybe_clauses_weight, maybe_body_weight, catches_weight, segments_weight, fields_weight, steps_weight, qualifiers_weight, function_weight}
use Rattle.ef_forms.specs.Tree.{Tree, Shape, Trees, Guards, Clauses, MaybeClauses, MaybeTrees, Catches, Segments, Fields, Steps, Qualifiers, FunctionTree, tree, list, list_to, tuple, binary, unary, operation, and_also, or_else, matching, catching, call, remote, record_new, record_update, record_field, block, if_of, case_of, receive_of, receive_after, try_of, maybe, list_comp, bin_comp, fun_remote, fun_of, named_fun, end, more, no_guard, or_guard, no_clauses, clause, left_out, these, absent, present, no_catches, catches, no_segments, segment, sized, no_fields, field, no_steps, step, step_to, no_qualifiers, list_from, bits_from, filter}
use Rattle.ef_forms.proofs.Renamed.{renamed_tree, renamed_shape, renamed_all, renamed_guards, renamed_clauses, renamed_maybe_clauses, renamed_maybe_trees, renamed_catches, renamed_segments, renamed_fields, renamed_steps, renamed_qualifiers, renamed_function}

one_more : {m n : ℕ} → m ≡ n → 1 + m ≡ 1 + n
one_more e = ap (λ k. 1 + k) e

sum_of : {a b c d : ℕ} → a ≡ b → c ≡ d → a + c ≡ b + d
sum_of e f = ap₂ (λ m n. m + n) e f

greatest : {a b c d : ℕ} → a ≡ b → c ≡ d → max a c ≡ max b d
greatest e f = ap₂ (λ m n. max m n) e f

module _ (r : Name → Name) where
  qualifier_count_stays : (qs : Qualifiers) → qualifier_count (renamed_qualifiers r qs) ≡ qualifier_count qs
  qualifier_count_stays no_qualifiers = refl
  qualifier_count_stays (list_from p e strict qs) = one_more (qualifier_count_stays qs)
  qualifier_count_stays (bits_from p e strict qs) = one_more (qualifier_count_stays qs)
  qualifier_count_stays (filter e qs) = one_more (qualifier_count_stays qs)

  mutual
    pub depth_stays : (e : Tree) → depth (renamed_tree r e) ≡ depth e
    depth_stays (tree p e) = shape_depth_stays e

    shape_depth_stays : (e : Shape) → shape_depth (renamed_shape r e) ≡ shape_depth e
    shape_depth_stays (list es) = one_more (all_depth_stays es)
    shape_depth_stays (list_to es e) = one_more (greatest (all_depth_stays es) (depth_stays e))
    shape_depth_stays (tuple es) = one_more (all_depth_stays es)
    shape_depth_stays (binary ss) = one_more (segments_depth_stays ss)
    shape_depth_stays (unary o e) = one_more (depth_stays e)
    shape_depth_stays (operation o a b) = one_more (greatest (depth_stays a) (depth_stays b))
    shape_depth_stays (and_also a b) = one_more (greatest (depth_stays a) (depth_stays b))
    shape_depth_stays (or_else a b) = one_more (greatest (depth_stays a) (depth_stays b))
    shape_depth_stays (matching p e) = one_more (greatest (depth_stays p) (depth_stays e))
    shape_depth_stays (catching e) = one_more (depth_stays e)
    shape_depth_stays (call f es) = one_more (greatest (depth_stays f) (all_depth_stays es))
    shape_depth_stays (remote m f es) = one_more (greatest (depth_stays m) (greatest (depth_stays f) (all_depth_stays es)))
    shape_depth_stays (record_new n fs) = one_more (fields_depth_stays fs)
    shape_depth_stays (record_update e n fs) = one_more (greatest (depth_stays e) (fields_depth_stays fs))
    shape_depth_stays (record_field e n f) = one_more (depth_stays e)
    shape_depth_stays (block es) = one_more (all_depth_stays es)
    shape_depth_stays (if_of cs) = one_more (clauses_depth_stays cs)
    shape_depth_stays (case_of e cs) = one_more (greatest (depth_stays e) (clauses_depth_stays cs))
    shape_depth_stays (receive_of cs) = one_more (clauses_depth_stays cs)
    shape_depth_stays (receive_after cs e es) = one_more (greatest (clauses_depth_stays cs) (greatest (depth_stays e) (all_depth_stays es)))
    shape_depth_stays (try_of es cs ks after) = one_more (greatest (all_depth_stays es) (greatest (maybe_clauses_depth_stays cs) (greatest (catches_depth_stays ks) (maybe_body_depth_stays after))))
    shape_depth_stays (maybe ss cs) = one_more (greatest (steps_depth_stays ss) (maybe_clauses_depth_stays cs))
    shape_depth_stays (list_comp e qs) = one_more (greatest (qualifiers_depth_stays qs) (sum_of (qualifier_count_stays qs) (depth_stays e)))
    shape_depth_stays (bin_comp e qs) = one_more (greatest (qualifiers_depth_stays qs) (sum_of (qualifier_count_stays qs) (depth_stays e)))
    shape_depth_stays (fun_remote m f arity) = one_more (greatest (depth_stays m) (greatest (depth_stays f) (depth_stays arity)))
    shape_depth_stays (fun_of cs) = one_more (clauses_depth_stays cs)
    shape_depth_stays (named_fun n cs) = one_more (clauses_depth_stays cs)
    shape_depth_stays _ = refl

    all_depth_stays : (es : Trees) → all_depth (renamed_all r es) ≡ all_depth es
    all_depth_stays end = refl
    all_depth_stays (more e es) = greatest (depth_stays e) (all_depth_stays es)

    guards_depth_stays : (gs : Guards) → guards_depth (renamed_guards r gs) ≡ guards_depth gs
    guards_depth_stays no_guard = refl
    guards_depth_stays (or_guard es gs) = greatest (all_depth_stays es) (guards_depth_stays gs)

    pub clauses_depth_stays : (cs : Clauses) → clauses_depth (renamed_clauses r cs) ≡ clauses_depth cs
    clauses_depth_stays no_clauses = refl
    clauses_depth_stays (clause p ps g body cs) = greatest (all_depth_stays ps) (greatest (guards_depth_stays g) (greatest (all_depth_stays body) (clauses_depth_stays cs)))

    maybe_clauses_depth_stays : (cs : MaybeClauses) → maybe_clauses_depth (renamed_maybe_clauses r cs) ≡ maybe_clauses_depth cs
    maybe_clauses_depth_stays left_out = refl
    maybe_clauses_depth_stays (these cs) = clauses_depth_stays cs

    maybe_body_depth_stays : (es : MaybeTrees) → maybe_body_depth (renamed_maybe_trees r es) ≡ maybe_body_depth es
    maybe_body_depth_stays absent = refl
    maybe_body_depth_stays (present es) = all_depth_stays es

    catches_depth_stays : (ks : Catches) → catches_depth (renamed_catches r ks) ≡ catches_depth ks
    catches_depth_stays no_catches = refl
    catches_depth_stays (catches p class e trace g body ks) = greatest (depth_stays e) (greatest (guards_depth_stays g) (greatest (all_depth_stays body) (catches_depth_stays ks)))

    segments_depth_stays : (ss : Segments) → segments_depth (renamed_segments r ss) ≡ segments_depth ss
    segments_depth_stays no_segments = refl
    segments_depth_stays (segment p e ws ss) = greatest (depth_stays e) (segments_depth_stays ss)
    segments_depth_stays (sized p e n ws ss) = greatest (depth_stays e) (greatest (depth_stays n) (segments_depth_stays ss))

    fields_depth_stays : (fs : Fields) → fields_depth (renamed_fields r fs) ≡ fields_depth fs
    fields_depth_stays no_fields = refl
    fields_depth_stays (field p n e fs) = greatest (depth_stays e) (fields_depth_stays fs)

    steps_depth_stays : (ss : Steps) → steps_depth (renamed_steps r ss) ≡ steps_depth ss
    steps_depth_stays no_steps = refl
    steps_depth_stays (step e ss) = greatest (depth_stays e) (steps_depth_stays ss)
    steps_depth_stays (step_to p e ss) = greatest (depth_stays p) (greatest (depth_stays e) (one_more (steps_depth_stays ss)))

    qualifiers_depth_stays : (qs : Qualifiers) → qualifiers_depth (renamed_qualifiers r qs) ≡ qualifiers_depth qs
    qualifiers_depth_stays no_qualifiers = refl
    qualifiers_depth_stays (list_from p e strict qs) = greatest (depth_stays p) (greatest (depth_stays e) (one_more (qualifiers_depth_stays qs)))
    qualifiers_depth_stays (bits_from p e strict qs) = greatest (depth_stays p) (greatest (depth_stays e) (one_more (qualifiers_depth_stays qs)))
    qualifiers_depth_stays (filter e qs) = greatest (depth_stays e) (one_more (qualifiers_depth_stays qs))

  mutual
    pub weight_stays : (e : Tree) → weight (renamed_tree r e) ≡ weight e
    weight_stays (tree p e) = shape_weight_stays e

    shape_weight_stays : (e : Shape) → shape_weight (renamed_shape r e) ≡ shape_weight e
    shape_weight_stays (list es) = one_more (all_weight_stays es)
    shape_weight_stays (list_to es e) = one_more (sum_of (all_weight_stays es) (weight_stays e))
    shape_weight_stays (tuple es) = one_more (all_weight_stays es)
    shape_weight_stays (binary ss) = one_more (segments_weight_stays ss)
    shape_weight_stays (unary o e) = one_more (weight_stays e)
    shape_weight_stays (operation o a b) = one_more (sum_of (weight_stays a) (weight_stays b))
    shape_weight_stays (and_also a b) = one_more (sum_of (weight_stays a) (weight_stays b))
    shape_weight_stays (or_else a b) = one_more (sum_of (weight_stays a) (weight_stays b))
    shape_weight_stays (matching p e) = one_more (sum_of (weight_stays p) (weight_stays e))
    shape_weight_stays (catching e) = one_more (weight_stays e)
    shape_weight_stays (call f es) = one_more (sum_of (weight_stays f) (all_weight_stays es))
    shape_weight_stays (remote m f es) = one_more (sum_of (weight_stays m) (sum_of (weight_stays f) (all_weight_stays es)))
    shape_weight_stays (record_new n fs) = one_more (fields_weight_stays fs)
    shape_weight_stays (record_update e n fs) = one_more (sum_of (weight_stays e) (fields_weight_stays fs))
    shape_weight_stays (record_field e n f) = one_more (weight_stays e)
    shape_weight_stays (block es) = one_more (all_weight_stays es)
    shape_weight_stays (if_of cs) = one_more (clauses_weight_stays cs)
    shape_weight_stays (case_of e cs) = one_more (sum_of (weight_stays e) (clauses_weight_stays cs))
    shape_weight_stays (receive_of cs) = one_more (clauses_weight_stays cs)
    shape_weight_stays (receive_after cs e es) = one_more (sum_of (clauses_weight_stays cs) (sum_of (weight_stays e) (all_weight_stays es)))
    shape_weight_stays (try_of es cs ks after) = one_more (sum_of (all_weight_stays es) (sum_of (maybe_clauses_weight_stays cs) (sum_of (catches_weight_stays ks) (maybe_body_weight_stays after))))
    shape_weight_stays (maybe ss cs) = one_more (sum_of (steps_weight_stays ss) (maybe_clauses_weight_stays cs))
    shape_weight_stays (list_comp e qs) = one_more (sum_of (qualifiers_weight_stays qs) (weight_stays e))
    shape_weight_stays (bin_comp e qs) = one_more (sum_of (qualifiers_weight_stays qs) (weight_stays e))
    shape_weight_stays (fun_remote m f arity) = one_more (sum_of (weight_stays m) (sum_of (weight_stays f) (weight_stays arity)))
    shape_weight_stays (fun_of cs) = one_more (clauses_weight_stays cs)
    shape_weight_stays (named_fun n cs) = one_more (clauses_weight_stays cs)
    shape_weight_stays _ = refl

    all_weight_stays : (es : Trees) → all_weight (renamed_all r es) ≡ all_weight es
    all_weight_stays end = refl
    all_weight_stays (more e es) = sum_of (weight_stays e) (all_weight_stays es)

    guards_weight_stays : (gs : Guards) → guards_weight (renamed_guards r gs) ≡ guards_weight gs
    guards_weight_stays no_guard = refl
    guards_weight_stays (or_guard es gs) = sum_of (all_weight_stays es) (guards_weight_stays gs)

    pub clauses_weight_stays : (cs : Clauses) → clauses_weight (renamed_clauses r cs) ≡ clauses_weight cs
    clauses_weight_stays no_clauses = refl
    clauses_weight_stays (clause p ps g body cs) = sum_of (all_weight_stays ps) (sum_of (guards_weight_stays g) (sum_of (all_weight_stays body) (clauses_weight_stays cs)))

    maybe_clauses_weight_stays : (cs : MaybeClauses) → maybe_clauses_weight (renamed_maybe_clauses r cs) ≡ maybe_clauses_weight cs
    maybe_clauses_weight_stays left_out = refl
    maybe_clauses_weight_stays (these cs) = clauses_weight_stays cs

    maybe_body_weight_stays : (es : MaybeTrees) → maybe_body_weight (renamed_maybe_trees r es) ≡ maybe_body_weight es
    maybe_body_weight_stays absent = refl
    maybe_body_weight_stays (present es) = all_weight_stays es

    catches_weight_stays : (ks : Catches) → catches_weight (renamed_catches r ks) ≡ catches_weight ks
    catches_weight_stays no_catches = refl
    catches_weight_stays (catches p class e trace g body ks) = sum_of (weight_stays e) (sum_of (guards_weight_stays g) (sum_of (all_weight_stays body) (catches_weight_stays ks)))

    segments_weight_stays : (ss : Segments) → segments_weight (renamed_segments r ss) ≡ segments_weight ss
    segments_weight_stays no_segments = refl
    segments_weight_stays (segment p e ws ss) = sum_of (weight_stays e) (segments_weight_stays ss)
    segments_weight_stays (sized p e n ws ss) = sum_of (weight_stays e) (sum_of (weight_stays n) (segments_weight_stays ss))

    fields_weight_stays : (fs : Fields) → fields_weight (renamed_fields r fs) ≡ fields_weight fs
    fields_weight_stays no_fields = refl
    fields_weight_stays (field p n e fs) = sum_of (weight_stays e) (fields_weight_stays fs)

    steps_weight_stays : (ss : Steps) → steps_weight (renamed_steps r ss) ≡ steps_weight ss
    steps_weight_stays no_steps = refl
    steps_weight_stays (step e ss) = sum_of (weight_stays e) (steps_weight_stays ss)
    steps_weight_stays (step_to p e ss) = sum_of (weight_stays p) (sum_of (weight_stays e) (steps_weight_stays ss))

    qualifiers_weight_stays : (qs : Qualifiers) → qualifiers_weight (renamed_qualifiers r qs) ≡ qualifiers_weight qs
    qualifiers_weight_stays no_qualifiers = refl
    qualifiers_weight_stays (list_from p e strict qs) = sum_of (weight_stays p) (sum_of (weight_stays e) (qualifiers_weight_stays qs))
    qualifiers_weight_stays (bits_from p e strict qs) = sum_of (weight_stays p) (sum_of (weight_stays e) (qualifiers_weight_stays qs))
    qualifiers_weight_stays (filter e qs) = sum_of (weight_stays e) (qualifiers_weight_stays qs)

  pub function_depth_stays : (f : FunctionTree) → function_depth (renamed_function r f) ≡ function_depth f
  function_depth_stays f = clauses_depth_stays f.clauses

  pub function_weight_stays : (f : FunctionTree) → function_weight (renamed_function r f) ≡ function_weight f
  function_weight_stays f = clauses_weight_stays f.clauses

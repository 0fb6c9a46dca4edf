-- The nodes of a tree whose names are all of one table are such trees themselves.
use Rattle.std.proofs.Common.{ℕ, List, [], ◌∷◌, ◌++◌, Option, Some, None, IfSome}
use Rattle.std.specs.List.{flat_map}
use Rattle.ef_base.specs.Texts.{Texts}
use Rattle.ef_forms.specs.declared.role.Role.{Role}
use Rattle.ef_forms.specs.declared.role.Role.TheVariants.{Body, Pattern, Guard, Target, Filter}
use Rattle.ef_forms.specs.Nodes.{SeenTree, next, behind, nodes, parts, all_nodes, guard_nodes, clause_nodes, maybe_clause_nodes, maybe_body_nodes, catch_nodes, segment_nodes, field_nodes, step_nodes, qualifier_nodes, default_nodes, form_nodes}
use Rattle.ef_forms.specs.OfTable.{TreeOf, ShapeOf, TreesOf, GuardsOf, ClausesOf, MaybeClausesOf, MaybeTreesOf, CatchesOf, SegmentsOf, FieldsOf, StepsOf, QualifiersOf, FieldTreesOf, FormOf}
use Rattle.ef_forms.specs.Roles.{inside, of_size, of_target}
use Rattle.ef_forms.specs.Tree.{Tree, Shape, Trees, Guards, Clauses, MaybeClauses, MaybeTrees, Catches, Segments, Fields, Steps, Qualifiers, FieldTree, FormTree}
use Rattle.ef_forms.specs.Tree.{tree, int, character, string, atom, var, any, list, list_to, tuple, binary, unary, operation, and_also, or_else, matching, catching, call, remote, record_new, record_update, record_field, record_index, block, if_of, case_of, receive_of, receive_after, try_of, maybe, list_comp, bin_comp, fun_local, fun_remote, fun_of, named_fun}
use Rattle.ef_forms.specs.Tree.{end, more, no_guard, or_guard, no_clauses, clause, left_out, these, absent, present, no_catches, catches, no_segments, segment, sized, no_fields, field, no_steps, step, step_to, no_qualifiers, list_from, bits_from, filter}
use Rattle.ef_forms.specs.Tree.{module_name, export, import, record_of, attribute, dropped, export_all, function}

module _ (now : Texts) where
  abbrev pub EachOf : List SeenTree → Type 0
  EachOf [] = Unit {0}
  EachOf (s ∷ ss) = TreeOf now s.tree × EachOf ss

  both : (ss us : List SeenTree) → EachOf ss → EachOf us → EachOf (ss ++ us)
  both [] us a b = b
  both (s ∷ ss) us a b = (a.0, both ss us a.1 b)

  mutual
    nodes_of : (r : Role) (l : ℕ) (e : Tree) → TreeOf now e → EachOf (nodes r l e)
    nodes_of r l (tree p e) h = (h, parts_of (inside r) (next l) e h)

    parts_of : (r : Role) (l : ℕ) (e : Shape) → ShapeOf now e → EachOf (parts r l e)
    parts_of r l (int n) h = tt
    parts_of r l (character c) h = tt
    parts_of r l (string cs) h = tt
    parts_of r l (atom n) h = tt
    parts_of r l (var n) h = tt
    parts_of r l any h = tt
    parts_of r l (list es) h = all_of r l es h
    parts_of r l (list_to es e) h = both (all_nodes r l es) (nodes r l e) (all_of r l es h.0) (nodes_of r l e h.1)
    parts_of r l (tuple es) h = all_of r l es h
    parts_of r l (binary ss) h = segments_of r l ss h
    parts_of r l (unary o e) h = nodes_of r l e h
    parts_of r l (operation o a b) h = both (nodes r l a) (nodes r l b) (nodes_of r l a h.0) (nodes_of r l b h.1)
    parts_of r l (and_also a b) h = both (nodes r l a) (nodes r l b) (nodes_of r l a h.0) (nodes_of r l b h.1)
    parts_of r l (or_else a b) h = both (nodes r l a) (nodes r l b) (nodes_of r l a h.0) (nodes_of r l b h.1)
    parts_of r l (matching p e) h = both (nodes Pattern l p) (nodes r l e) (nodes_of Pattern l p h.0) (nodes_of r l e h.1)
    parts_of r l (catching e) h = nodes_of r l e h
    parts_of r l (call f es) h = both (nodes (of_target r f) l f) (all_nodes r l es) (nodes_of (of_target r f) l f h.0) (all_of r l es h.1)
    parts_of r l (remote m f es) h =
        both (nodes (of_target r m) l m) (nodes (of_target r f) l f ++ all_nodes r l es) (nodes_of (of_target r m) l m h.0)
        (both (nodes (of_target r f) l f) (all_nodes r l es) (nodes_of (of_target r f) l f h.1) (all_of r l es h.2))
    parts_of r l (record_new n fs) h = fields_of r l fs h.1
    parts_of r l (record_update e n fs) h = both (nodes r l e) (field_nodes r l fs) (nodes_of r l e h.0) (fields_of r l fs h.2)
    parts_of r l (record_field e n f) h = nodes_of r l e h.0
    parts_of r l (record_index n f) h = tt
    parts_of r l (block es) h = all_of Body l es h
    parts_of r l (if_of cs) h = clauses_of l cs h
    parts_of r l (case_of e cs) h = both (nodes r l e) (clause_nodes l cs) (nodes_of r l e h.0) (clauses_of l cs h.1)
    parts_of r l (receive_of cs) h = clauses_of l cs h
    parts_of r l (receive_after cs e es) h =
        both (clause_nodes l cs) (nodes r l e ++ all_nodes Body l es) (clauses_of l cs h.0)
        (both (nodes r l e) (all_nodes Body l es) (nodes_of r l e h.1) (all_of Body l es h.2))
    parts_of r l (try_of es cs ks after) h =
        both (all_nodes Body l es) (maybe_clause_nodes l cs ++ (catch_nodes l ks ++ maybe_body_nodes l after)) (all_of Body l es h.0)
        (both (maybe_clause_nodes l cs) (catch_nodes l ks ++ maybe_body_nodes l after) (maybe_clauses_of l cs h.1)
        (both (catch_nodes l ks) (maybe_body_nodes l after) (catches_of l ks h.2) (maybe_trees_of l after h.3)))
    parts_of r l (maybe ss cs) h = both (step_nodes l ss) (maybe_clause_nodes l cs) (steps_of l ss h.0) (maybe_clauses_of l cs h.1)
    parts_of r l (list_comp e qs) h = both (qualifier_nodes l qs) (nodes Body (behind l qs) e) (qualifiers_of l qs h.1) (nodes_of Body (behind l qs) e h.0)
    parts_of r l (bin_comp e qs) h = both (qualifier_nodes l qs) (nodes Body (behind l qs) e) (qualifiers_of l qs h.1) (nodes_of Body (behind l qs) e h.0)
    parts_of r l (fun_local n a) h = tt
    parts_of r l (fun_remote m f a) h =
        both (nodes Target l m) (nodes Target l f ++ nodes Target l a) (nodes_of Target l m h.0)
        (both (nodes Target l f) (nodes Target l a) (nodes_of Target l f h.1) (nodes_of Target l a h.2))
    parts_of r l (fun_of cs) h = clauses_of l cs h
    parts_of r l (named_fun n cs) h = clauses_of l cs h.1

    all_of : (r : Role) (l : ℕ) (es : Trees) → TreesOf now es → EachOf (all_nodes r l es)
    all_of r l end h = tt
    all_of r l (more e es) h = both (nodes r l e) (all_nodes r l es) (nodes_of r l e h.0) (all_of r l es h.1)

    guards_of : (l : ℕ) (g : Guards) → GuardsOf now g → EachOf (guard_nodes l g)
    guards_of l no_guard h = tt
    guards_of l (or_guard es gs) h = both (all_nodes Guard l es) (guard_nodes l gs) (all_of Guard l es h.0) (guards_of l gs h.1)

    clauses_of : (l : ℕ) (cs : Clauses) → ClausesOf now cs → EachOf (clause_nodes l cs)
    clauses_of l no_clauses h = tt
    clauses_of l (clause p ps g body cs) h =
        both (all_nodes Pattern l ps) (guard_nodes l g ++ (all_nodes Body l body ++ clause_nodes l cs)) (all_of Pattern l ps h.0)
        (both (guard_nodes l g) (all_nodes Body l body ++ clause_nodes l cs) (guards_of l g h.1)
        (both (all_nodes Body l body) (clause_nodes l cs) (all_of Body l body h.2) (clauses_of l cs h.3)))

    maybe_clauses_of : (l : ℕ) (cs : MaybeClauses) → MaybeClausesOf now cs → EachOf (maybe_clause_nodes l cs)
    maybe_clauses_of l left_out h = tt
    maybe_clauses_of l (these cs) h = clauses_of l cs h

    maybe_trees_of : (l : ℕ) (es : MaybeTrees) → MaybeTreesOf now es → EachOf (maybe_body_nodes l es)
    maybe_trees_of l absent h = tt
    maybe_trees_of l (present es) h = all_of Body l es h

    catches_of : (l : ℕ) (ks : Catches) → CatchesOf now ks → EachOf (catch_nodes l ks)
    catches_of l no_catches h = tt
    catches_of l (catches p class e trace g body ks) h =
        both (nodes Pattern l e) (guard_nodes l g ++ (all_nodes Body l body ++ catch_nodes l ks)) (nodes_of Pattern l e h.1)
        (both (guard_nodes l g) (all_nodes Body l body ++ catch_nodes l ks) (guards_of l g h.3)
        (both (all_nodes Body l body) (catch_nodes l ks) (all_of Body l body h.4) (catches_of l ks h.5)))

    segments_of : (r : Role) (l : ℕ) (ss : Segments) → SegmentsOf now ss → EachOf (segment_nodes r l ss)
    segments_of r l no_segments h = tt
    segments_of r l (segment p e ws ss) h = both (nodes r l e) (segment_nodes r l ss) (nodes_of r l e h.0) (segments_of r l ss h.2)
    segments_of r l (sized p e n ws ss) h =
        both (nodes r l e) (nodes (of_size r) l n ++ segment_nodes r l ss) (nodes_of r l e h.0)
        (both (nodes (of_size r) l n) (segment_nodes r l ss) (nodes_of (of_size r) l n h.1) (segments_of r l ss h.3))

    fields_of : (r : Role) (l : ℕ) (fs : Fields) → FieldsOf now fs → EachOf (field_nodes r l fs)
    fields_of r l no_fields h = tt
    fields_of r l (field p n e fs) h = both (nodes r l e) (field_nodes r l fs) (nodes_of r l e h.1) (fields_of r l fs h.2)

    steps_of : (l : ℕ) (ss : Steps) → StepsOf now ss → EachOf (step_nodes l ss)
    steps_of l no_steps h = tt
    steps_of l (step e ss) h = both (nodes Body l e) (step_nodes l ss) (nodes_of Body l e h.0) (steps_of l ss h.1)
    steps_of l (step_to p e ss) h =
        both (nodes Pattern l p) (nodes Body l e ++ step_nodes (next l) ss) (nodes_of Pattern l p h.0)
        (both (nodes Body l e) (step_nodes (next l) ss) (nodes_of Body l e h.1) (steps_of (next l) ss h.2))

    qualifiers_of : (l : ℕ) (qs : Qualifiers) → QualifiersOf now qs → EachOf (qualifier_nodes l qs)
    qualifiers_of l no_qualifiers h = tt
    qualifiers_of l (list_from p e strict qs) h =
        both (nodes Pattern l p) (nodes Body l e ++ qualifier_nodes (next l) qs) (nodes_of Pattern l p h.0)
        (both (nodes Body l e) (qualifier_nodes (next l) qs) (nodes_of Body l e h.1) (qualifiers_of (next l) qs h.2))
    qualifiers_of l (bits_from p e strict qs) h =
        both (nodes Pattern l p) (nodes Body l e ++ qualifier_nodes (next l) qs) (nodes_of Pattern l p h.0)
        (both (nodes Body l e) (qualifier_nodes (next l) qs) (nodes_of Body l e h.1) (qualifiers_of (next l) qs h.2))
    qualifiers_of l (filter e qs) h = both (nodes Filter l e) (qualifier_nodes (next l) qs) (nodes_of Filter l e h.0) (qualifiers_of (next l) qs h.1)

  default_of : (o : Option Tree) → IfSome o (TreeOf now) → EachOf (default_nodes o)
  default_of None h = tt
  default_of (Some e) h = nodes_of Body 1 e h

  defaults_of : (fs : List FieldTree) → FieldTreesOf now fs → EachOf (flat_map (λ (f : FieldTree). default_nodes f.default) fs)
  defaults_of [] h = tt
  defaults_of (f ∷ fs) h = both (default_nodes f.default) (flat_map (λ (g : FieldTree). default_nodes g.default) fs) (default_of f.default h.1) (defaults_of fs h.2)

  pub form_nodes_of : (f : FormTree) → FormOf now f → EachOf (form_nodes f)
  form_nodes_of (module_name n) h = tt
  form_nodes_of (export rs) h = tt
  form_nodes_of (import m rs) h = tt
  form_nodes_of (record_of r) h = defaults_of r.fields h.1
  form_nodes_of (attribute n e) h = nodes_of Body 1 e h.1
  form_nodes_of dropped h = tt
  form_nodes_of export_all h = tt
  form_nodes_of (function f) h = clauses_of 1 f.clauses h.1

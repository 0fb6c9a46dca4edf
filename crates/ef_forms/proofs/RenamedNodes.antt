-- The nodes of a tree under other names are its nodes, renamed, and rules see the same of them.
use Rattle.std.proofs.Common.{◌≡◌, ℕ, ◌+◌, List, [], ◌∷◌, ◌++◌, Option, Some, None, refl, sym, ap, ap₂, ◌∙◌, map}
use Rattle.std.specs.List.{flat_map}
use Rattle.std.specs.Option.{option_map}
use Rattle.std.proofs.lemmas.List.{map-append}
use Rattle.ef_base.specs.declared.name.Name.{Name}
use Rattle.ef_forms.specs.declared.role.Role.{Role}
use Rattle.ef_forms.specs.declared.role.Role.TheVariants.{Body, Pattern, Guard, Target, Filter}
use Rattle.ef_forms.specs.Nodes.{SeenTree, seen, next, behind, nodes, parts, all_nodes, guard_nodes, clause_nodes, maybe_clause_nodes, maybe_body_nodes, catch_nodes, segment_nodes, field_nodes, step_nodes, qualifier_nodes, default_nodes, form_nodes}
use Rattle.ef_forms.specs.Roles.{inside, of_size, of_target}
use Rattle.ef_forms.specs.Tree.{Tree, Shape, Trees, Guards, Clauses, MaybeClauses, MaybeTrees, Catches, Segments, Fields, Steps, Qualifiers, FieldTree, FormTree, count}
use Rattle.ef_forms.specs.Tree.{tree, atom, list, list_to, tuple, binary, unary, operation, and_also, or_else, matching, catching, call, remote, record_new, record_update, record_field, block, if_of, case_of, receive_of, receive_after, try_of, maybe, list_comp, bin_comp, fun_remote, fun_of, named_fun}
use Rattle.ef_forms.specs.Tree.{end, more, no_guard, or_guard, no_clauses, clause, left_out, these, absent, present, no_catches, catches, no_segments, segment, sized, no_fields, field, no_steps, step, step_to, no_qualifiers, list_from, bits_from, filter}
use Rattle.ef_forms.specs.Tree.{module_name, export, import, record_of, attribute, dropped, export_all, function}
use Rattle.ef_forms.specs.Views.{place_of, atom_of, arguments, operator, heads, fun_heads}
use Rattle.ef_forms.proofs.Renamed.{renamed_tree, renamed_shape, renamed_all, renamed_guards, renamed_clauses, renamed_maybe_clauses, renamed_maybe_trees, renamed_catches, renamed_segments, renamed_fields, renamed_steps, renamed_qualifiers, renamed_field_tree, renamed_form}

module _ (r : Name → Name) where
  abbrev pub renamed_seen : SeenTree → SeenTree
  renamed_seen s = record { role = s.role; level = s.level; tree = renamed_tree r s.tree }

  abbrev Stay : List SeenTree → List SeenTree → Type 0
  Stay new old = new ≡ map renamed_seen old

  both : {us vs : List SeenTree} (ss ts : List SeenTree) → Stay us ss → Stay vs ts → Stay (us ++ vs) (ss ++ ts)
  both ss ts e f = ap₂ (λ x y. x ++ y) e f ∙ sym (map-append renamed_seen ss ts)

  -- ---- what rules see of a node

  pub count_stays : (es : Trees) → count (renamed_all r es) ≡ count es
  count_stays end = refl
  count_stays (more e es) = ap (λ n. 1 + n) (count_stays es)

  target_stays : (q : Role) (e : Tree) → of_target q (renamed_tree r e) ≡ of_target q e
  target_stays q (tree p (atom n)) = refl
  target_stays q (tree p _) = refl

  pub place_stays : (e : Tree) → place_of (renamed_tree r e) ≡ place_of e
  place_stays (tree p e) = refl

  pub atom_stays : (e : Tree) → atom_of (renamed_tree r e) ≡ option_map r (atom_of e)
  atom_stays (tree p (atom n)) = refl
  atom_stays (tree p _) = refl

  pub arguments_stay : (e : Tree) → arguments (renamed_tree r e) ≡ arguments e
  arguments_stay (tree p (call f es)) = ap Some (count_stays es)
  arguments_stay (tree p (remote m f es)) = ap Some (count_stays es)
  arguments_stay (tree p _) = refl

  pub operator_stays : (e : Tree) → operator (renamed_tree r e) ≡ operator e
  operator_stays (tree p (operation o a b)) = refl
  operator_stays (tree p _) = refl

  pub heads_stay : (cs : Clauses) → heads (renamed_clauses r cs) ≡ heads cs
  heads_stay no_clauses = refl
  heads_stay (clause p ps g body cs) = ap₂ (λ n hs. record { place = p; parameters = n } ∷ hs) (count_stays ps) (heads_stay cs)

  pub fun_heads_stay : (e : Tree) → fun_heads (renamed_tree r e) ≡ fun_heads e
  fun_heads_stay (tree p (fun_of cs)) = heads_stay cs
  fun_heads_stay (tree p (named_fun n cs)) = heads_stay cs
  fun_heads_stay (tree p _) = refl

  -- ---- the nodes

  behind_stays : (l : ℕ) (qs : Qualifiers) → behind l (renamed_qualifiers r qs) ≡ behind l qs
  behind_stays l no_qualifiers = refl
  behind_stays l (list_from p e b qs) = behind_stays (next l) qs
  behind_stays l (bits_from p e b qs) = behind_stays (next l) qs
  behind_stays l (filter e qs) = behind_stays (next l) qs

  mutual
    pub nodes_stay : (q : Role) (l : ℕ) (e : Tree) → Stay (nodes q l (renamed_tree r e)) (nodes q l e)
    nodes_stay q l (tree p e) = ap (λ ss. seen q l (tree p (renamed_shape r e)) ∷ ss) (parts_stay (inside q) (next l) e)

    parts_stay : (q : Role) (l : ℕ) (e : Shape) → Stay (parts q l (renamed_shape r e)) (parts q l e)
    parts_stay q l (list es) = all_stay q l es
    parts_stay q l (list_to es e) = both (all_nodes q l es) (nodes q l e) (all_stay q l es) (nodes_stay q l e)
    parts_stay q l (tuple es) = all_stay q l es
    parts_stay q l (binary ss) = segments_stay q l ss
    parts_stay q l (unary o e) = nodes_stay q l e
    parts_stay q l (operation o a b) = both (nodes q l a) (nodes q l b) (nodes_stay q l a) (nodes_stay q l b)
    parts_stay q l (and_also a b) = both (nodes q l a) (nodes q l b) (nodes_stay q l a) (nodes_stay q l b)
    parts_stay q l (or_else a b) = both (nodes q l a) (nodes q l b) (nodes_stay q l a) (nodes_stay q l b)
    parts_stay q l (matching p e) = both (nodes Pattern l p) (nodes q l e) (nodes_stay Pattern l p) (nodes_stay q l e)
    parts_stay q l (catching e) = nodes_stay q l e
    parts_stay q l (call f es) = both (nodes (of_target q f) l f) (all_nodes q l es) (ap (λ k. nodes k l (renamed_tree r f)) (target_stays q f) ∙ nodes_stay (of_target q f) l f) (all_stay q l es)
    parts_stay q l (remote m f es) =
        both (nodes (of_target q m) l m) (nodes (of_target q f) l f ++ all_nodes q l es) (ap (λ k. nodes k l (renamed_tree r m)) (target_stays q m) ∙ nodes_stay (of_target q m) l m)
        (both (nodes (of_target q f) l f) (all_nodes q l es) (ap (λ k. nodes k l (renamed_tree r f)) (target_stays q f) ∙ nodes_stay (of_target q f) l f) (all_stay q l es))
    parts_stay q l (record_new n fs) = fields_stay q l fs
    parts_stay q l (record_update e n fs) = both (nodes q l e) (field_nodes q l fs) (nodes_stay q l e) (fields_stay q l fs)
    parts_stay q l (record_field e n f) = nodes_stay q l e
    parts_stay q l (block es) = all_stay Body l es
    parts_stay q l (if_of cs) = clauses_stay l cs
    parts_stay q l (case_of e cs) = both (nodes q l e) (clause_nodes l cs) (nodes_stay q l e) (clauses_stay l cs)
    parts_stay q l (receive_of cs) = clauses_stay l cs
    parts_stay q l (receive_after cs e es) =
        both (clause_nodes l cs) (nodes q l e ++ all_nodes Body l es) (clauses_stay l cs)
        (both (nodes q l e) (all_nodes Body l es) (nodes_stay q l e) (all_stay Body l es))
    parts_stay q l (try_of es cs ks after) =
        both (all_nodes Body l es) (maybe_clause_nodes l cs ++ (catch_nodes l ks ++ maybe_body_nodes l after)) (all_stay Body l es)
        (both (maybe_clause_nodes l cs) (catch_nodes l ks ++ maybe_body_nodes l after) (maybe_clauses_stay l cs)
        (both (catch_nodes l ks) (maybe_body_nodes l after) (catches_stay l ks) (maybe_body_stays l after)))
    parts_stay q l (maybe ss cs) = both (step_nodes l ss) (maybe_clause_nodes l cs) (steps_stay l ss) (maybe_clauses_stay l cs)
    parts_stay q l (list_comp e qs) =
        both (qualifier_nodes l qs) (nodes Body (behind l qs) e) (qualifiers_stay l qs)
        (ap (λ n. nodes Body n (renamed_tree r e)) (behind_stays l qs) ∙ nodes_stay Body (behind l qs) e)
    parts_stay q l (bin_comp e qs) =
        both (qualifier_nodes l qs) (nodes Body (behind l qs) e) (qualifiers_stay l qs)
        (ap (λ n. nodes Body n (renamed_tree r e)) (behind_stays l qs) ∙ nodes_stay Body (behind l qs) e)
    parts_stay q l (fun_remote m f a) =
        both (nodes Target l m) (nodes Target l f ++ nodes Target l a) (nodes_stay Target l m)
        (both (nodes Target l f) (nodes Target l a) (nodes_stay Target l f) (nodes_stay Target l a))
    parts_stay q l (fun_of cs) = clauses_stay l cs
    parts_stay q l (named_fun n cs) = clauses_stay l cs
    parts_stay q l _ = refl

    all_stay : (q : Role) (l : ℕ) (es : Trees) → Stay (all_nodes q l (renamed_all r es)) (all_nodes q l es)
    all_stay q l end = refl
    all_stay q l (more e es) = both (nodes q l e) (all_nodes q l es) (nodes_stay q l e) (all_stay q l es)

    guards_stay : (l : ℕ) (gs : Guards) → Stay (guard_nodes l (renamed_guards r gs)) (guard_nodes l gs)
    guards_stay l no_guard = refl
    guards_stay l (or_guard es gs) = both (all_nodes Guard l es) (guard_nodes l gs) (all_stay Guard l es) (guards_stay l gs)

    clauses_stay : (l : ℕ) (cs : Clauses) → Stay (clause_nodes l (renamed_clauses r cs)) (clause_nodes l cs)
    clauses_stay l no_clauses = refl
    clauses_stay l (clause p ps g body cs) =
        both (all_nodes Pattern l ps) (guard_nodes l g ++ (all_nodes Body l body ++ clause_nodes l cs)) (all_stay Pattern l ps)
        (both (guard_nodes l g) (all_nodes Body l body ++ clause_nodes l cs) (guards_stay l g)
        (both (all_nodes Body l body) (clause_nodes l cs) (all_stay Body l body) (clauses_stay l cs)))

    maybe_clauses_stay : (l : ℕ) (cs : MaybeClauses) → Stay (maybe_clause_nodes l (renamed_maybe_clauses r cs)) (maybe_clause_nodes l cs)
    maybe_clauses_stay l left_out = refl
    maybe_clauses_stay l (these cs) = clauses_stay l cs

    maybe_body_stays : (l : ℕ) (es : MaybeTrees) → Stay (maybe_body_nodes l (renamed_maybe_trees r es)) (maybe_body_nodes l es)
    maybe_body_stays l absent = refl
    maybe_body_stays l (present es) = all_stay Body l es

    catches_stay : (l : ℕ) (ks : Catches) → Stay (catch_nodes l (renamed_catches r ks)) (catch_nodes l ks)
    catches_stay l no_catches = refl
    catches_stay l (catches p class e trace g body ks) =
        both (nodes Pattern l e) (guard_nodes l g ++ (all_nodes Body l body ++ catch_nodes l ks)) (nodes_stay Pattern l e)
        (both (guard_nodes l g) (all_nodes Body l body ++ catch_nodes l ks) (guards_stay l g)
        (both (all_nodes Body l body) (catch_nodes l ks) (all_stay Body l body) (catches_stay l ks)))

    segments_stay : (q : Role) (l : ℕ) (ss : Segments) → Stay (segment_nodes q l (renamed_segments r ss)) (segment_nodes q l ss)
    segments_stay q l no_segments = refl
    segments_stay q l (segment p e ws ss) = both (nodes q l e) (segment_nodes q l ss) (nodes_stay q l e) (segments_stay q l ss)
    segments_stay q l (sized p e n ws ss) =
        both (nodes q l e) (nodes (of_size q) l n ++ segment_nodes q l ss) (nodes_stay q l e)
        (both (nodes (of_size q) l n) (segment_nodes q l ss) (nodes_stay (of_size q) l n) (segments_stay q l ss))

    fields_stay : (q : Role) (l : ℕ) (fs : Fields) → Stay (field_nodes q l (renamed_fields r fs)) (field_nodes q l fs)
    fields_stay q l no_fields = refl
    fields_stay q l (field p n e fs) = both (nodes q l e) (field_nodes q l fs) (nodes_stay q l e) (fields_stay q l fs)

    steps_stay : (l : ℕ) (ss : Steps) → Stay (step_nodes l (renamed_steps r ss)) (step_nodes l ss)
    steps_stay l no_steps = refl
    steps_stay l (step e ss) = both (nodes Body l e) (step_nodes l ss) (nodes_stay Body l e) (steps_stay l ss)
    steps_stay l (step_to p e ss) =
        both (nodes Pattern l p) (nodes Body l e ++ step_nodes (next l) ss) (nodes_stay Pattern l p)
        (both (nodes Body l e) (step_nodes (next l) ss) (nodes_stay Body l e) (steps_stay (next l) ss))

    qualifiers_stay : (l : ℕ) (qs : Qualifiers) → Stay (qualifier_nodes l (renamed_qualifiers r qs)) (qualifier_nodes l qs)
    qualifiers_stay l no_qualifiers = refl
    qualifiers_stay l (list_from p e b qs) =
        both (nodes Pattern l p) (nodes Body l e ++ qualifier_nodes (next l) qs) (nodes_stay Pattern l p)
        (both (nodes Body l e) (qualifier_nodes (next l) qs) (nodes_stay Body l e) (qualifiers_stay (next l) qs))
    qualifiers_stay l (bits_from p e b qs) =
        both (nodes Pattern l p) (nodes Body l e ++ qualifier_nodes (next l) qs) (nodes_stay Pattern l p)
        (both (nodes Body l e) (qualifier_nodes (next l) qs) (nodes_stay Body l e) (qualifiers_stay (next l) qs))
    qualifiers_stay l (filter e qs) = both (nodes Filter l e) (qualifier_nodes (next l) qs) (nodes_stay Filter l e) (qualifiers_stay (next l) qs)

  default_stays : (o : Option Tree) → Stay (default_nodes (option_map (renamed_tree r) o)) (default_nodes o)
  default_stays None = refl
  default_stays (Some e) = nodes_stay Body 1 e

  defaults_stay : (fs : List FieldTree)
      → Stay (flat_map (λ (f : FieldTree). default_nodes f.default) (map (renamed_field_tree r) fs)) (flat_map (λ (f : FieldTree). default_nodes f.default) fs)
  defaults_stay [] = refl
  defaults_stay (f ∷ fs) = both (default_nodes f.default) (flat_map (λ (g : FieldTree). default_nodes g.default) fs) (default_stays f.default) (defaults_stay fs)

  pub form_nodes_stay : (f : FormTree) → Stay (form_nodes (renamed_form r f)) (form_nodes f)
  form_nodes_stay (function f) = clauses_stay 1 f.clauses
  form_nodes_stay (attribute n e) = nodes_stay Body 1 e
  form_nodes_stay (record_of d) = defaults_stay d.fields
  form_nodes_stay (module_name n) = refl
  form_nodes_stay (export fs) = refl
  form_nodes_stay (import m fs) = refl
  form_nodes_stay dropped = refl
  form_nodes_stay export_all = refl

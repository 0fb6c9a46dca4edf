-- Actions that make constructs of several parts do the same under other names.
use Rattle.std.proofs.Common.{◌≡◌, ℕ, max, length, nat_eq, Bool, true, false, ◌&&◌, cond, List, [], ◌∷◌, ◌++◌, Option, Some, None, refl, ap, map}
use Rattle.std.specs.Option.{option_map}
use Rattle.std.proofs.lemmas.List.{length-map}
use Rattle.std.proofs.lemmas.Bool.{eqb-true, eq-eqb, ne_eqb}
use Rattle.ef_base.specs.declared.fault.Place.{Place}
use Rattle.ef_base.specs.declared.name.Name.{Name}
use Rattle.ef_base.specs.NamedFaults.{plain}
use Rattle.ef_base.specs.FaultTable as table
use Rattle.ef_forms.specs.Tree.{Tree, Shape}
use Rattle.ef_forms.specs.Tree as t
use Rattle.ef_forms.specs.Plain.{ClauseTree, trees}
use Rattle.ef_forms.specs.Plain as p
use Rattle.ef_forms.specs.declared.expr.TypeWord.{TypeWord}
use Rattle.ef_forms.proofs.Renamed.{Injective, renamed_class, renamed_word, renamed_tree, renamed_shape, renamed_clause, renamed_maybe_clauses, renamed_maybe_trees, trees_stay, clauses_stay}
use Rattle.ef_build.specs.declared.value.Head.{Head}
use Rattle.ef_build.specs.declared.value.Operator.{Operator}
use Rattle.ef_build.specs.declared.value.Operator.TheVariants as op
use Rattle.ef_build.specs.Parts as part
use Rattle.ef_build.specs.Parts.{QualifierPart, from_list, from_bits, test}
use Rattle.ef_build.specs.Values.{Leaf, Items, Guard, Clauses, OpenSegment, Qualifiers, atom, var, any}
use Rattle.ef_build.specs.Stack.{given}
use Rattle.ef_build.specs.Constructs.{no_segments, bin, segment, size, typed, word, word_number, add_segment, no_qualifiers, qualified, arrow, from, filter, list_comp, bin_comp, no_guard, add_guard, no_clauses, with_clause, clause, if_clause, same_name, first_head, head_faults, headed, fun_clause, named_clause, function_clause, if_of, case_of, receive_of, receive_after, fun_named, fun_shape, fun_of, fun_local, name_shape, fun_remote, no_catches, unclassed, class_of, class, caught_pattern, catch_clause, some_clauses, some_body, try_of, no_steps, step, step_match, maybe_of}
use Rattle.ef_build.specs.Expressions.{arity_of}
use Rattle.ef_build.proofs.Tops.{map_more}
use Rattle.ef_build.proofs.Renamed.{renamed_leaf, renamed_items, renamed_guard, renamed_head, renamed_clauses, renamed_open_segment, renamed_qualifiers, renamed_catch_part, renamed_segment_part, renamed_step_part, renamed_qualifier_part, catches_stay, segments_stay, steps_stay, qualifiers_stay}
use Rattle.ef_build.proofs.RenamedStack.{Stays, given_stays, given_same, given_are, made_stays, at_taken, operator_taken, leaf_taken, operand_taken, items_taken, guard_taken, clauses_taken, mark_taken, caught_taken, catches_taken, open_segment_taken, segments_taken, qualifiers_taken, steps_taken, atom_taken}
use Rattle.ef_build.proofs.RenamedExpressions.{variable_in_stays, number_in_stays}

module _ (r : Name → Name) where
  -- ---- binaries

  pub no_segments_stays : Stays r no_segments no_segments
  no_segments_stays s = refl

  pub bin_stays : Stays r bin bin
  bin_stays = segments_taken r _ _ (λ ss. at_taken r _ _ (λ q. made_stays r _ _ _ _ _ (ap t.binary (segments_stay r ss.segments))))

  pub segment_stays : Stays r segment segment
  segment_stays = operand_taken r _ _ (λ x s. refl)

  pub size_stays : Stays r size size
  size_stays = operand_taken r _ _ (λ x. open_segment_taken r _ _ (λ o s. refl))

  typed_stays : (s : OpenSegment) (w : TypeWord) → Stays r (typed (renamed_open_segment r s) (renamed_word r w)) (typed s w)
  typed_stays s w u = rw (map_more (renamed_word r) s.part.types w) refl

  pub word_stays : Stays r word word
  word_stays = atom_taken r _ _ (λ n. operator_taken r _ _ (λ o. open_segment_taken r _ _ (λ s. typed_stays s (record { name = n.0; number = None }))))

  pub word_number_stays : Stays r word_number word_number
  word_number_stays =
      leaf_taken r _ _ (λ l. atom_taken r _ _ (λ n. operator_taken r _ _ (λ o. open_segment_taken r _ _ (λ s. given_are r _ _ _ _ (number_in_stays r l.0) (λ i.
      typed_stays s (record { name = n.0; number = Some i }))))))

  pub add_segment_stays : Stays r add_segment add_segment
  add_segment_stays = open_segment_taken r _ _ (λ o. segments_taken r _ _ (λ ss s. rw (map_more (renamed_segment_part r) ss.segments o.part) refl))

  -- ---- comprehensions

  pub no_qualifiers_stays : Stays r no_qualifiers no_qualifiers
  no_qualifiers_stays s = refl

  qualified_stays : (qs : Qualifiers) (q : QualifierPart) (n : ℕ) → Stays r (qualified (renamed_qualifiers r qs) (renamed_qualifier_part r q) n) (qualified qs q n)
  qualified_stays qs q n s = rw (map_more (renamed_qualifier_part r) qs.qualifiers q) refl

  from_stays_as : (o : Operator) (p e : Tree) (qs : Qualifiers) (n : ℕ)
      → Stays r (given (arrow o) (λ q. qualified (renamed_qualifiers r qs) (q (renamed_tree r p) (renamed_tree r e)) n)) (given (arrow o) (λ q. qualified qs (q p e) n))
  from_stays_as op.ListArrow p e qs n = qualified_stays qs (from_list p e false) n
  from_stays_as op.StrictListArrow p e qs n = qualified_stays qs (from_list p e true) n
  from_stays_as op.BitsArrow p e qs n = qualified_stays qs (from_bits p e false) n
  from_stays_as op.StrictBitsArrow p e qs n = qualified_stays qs (from_bits p e true) n
  from_stays_as _ p e qs n = λ s. refl

  pub from_stays : Stays r from from
  from_stays = operand_taken r _ _ (λ e. operator_taken r _ _ (λ o. operand_taken r _ _ (λ p. qualifiers_taken r _ _ (λ qs. from_stays_as o.0 p.tree e.tree qs (max p.nest e.nest)))))

  pub filter_stays : Stays r filter filter
  filter_stays = operand_taken r _ _ (λ e. qualifiers_taken r _ _ (λ qs. qualified_stays qs (test e.tree) e.nest))

  pub list_comp_stays : Stays r list_comp list_comp
  list_comp_stays =
      qualifiers_taken r _ _ (λ qs. operand_taken r _ _ (λ x. items_taken r _ _ (λ none. at_taken r _ _ (λ q.
      made_stays r _ _ _ _ _ (ap (t.list_comp (renamed_tree r x.tree)) (qualifiers_stay r qs.qualifiers))))))

  pub bin_comp_stays : Stays r bin_comp bin_comp
  bin_comp_stays =
      qualifiers_taken r _ _ (λ qs. operand_taken r _ _ (λ x. segments_taken r _ _ (λ none. at_taken r _ _ (λ q.
      made_stays r _ _ _ _ _ (ap (t.bin_comp (renamed_tree r x.tree)) (qualifiers_stay r qs.qualifiers))))))

  -- ---- guards and clauses

  pub no_guard_stays : Stays r no_guard no_guard
  no_guard_stays s = refl

  pub add_guard_stays : Stays r add_guard add_guard
  add_guard_stays = items_taken r _ _ (λ es. guard_taken r _ _ (λ g s. rw (map_more (map (renamed_tree r)) g.tests es.trees) refl))

  pub no_clauses_stays : Stays r no_clauses no_clauses
  no_clauses_stays s = refl

  with_clause_stays : (cs : Clauses) (c : ClauseTree) (h : Option Head) (n : ℕ) → Stays r (with_clause (renamed_clauses r cs) (renamed_clause r c) (option_map (renamed_head r) h) n) (with_clause cs c h n)
  with_clause_stays cs c h n s = rw (map_more (renamed_clause r) cs.clauses c) refl

  pub clause_stays : Stays r clause clause
  clause_stays =
      items_taken r _ _ (λ body. guard_taken r _ _ (λ g. operand_taken r _ _ (λ x. clauses_taken r _ _ (λ cs.
      with_clause_stays cs (record { place = x.start; patterns = x.tree ∷ []; guard = g.tests; body = body.trees }) cs.first (max (max x.nest g.nest) body.nest)))))

  pub if_clause_stays : Stays r if_clause if_clause
  if_clause_stays =
      items_taken r _ _ (λ body. guard_taken r _ _ (λ g. clauses_taken r _ _ (λ cs. given_same r g.start _ _ (λ q.
      with_clause_stays cs (record { place = q; patterns = []; guard = g.tests; body = body.trees }) cs.first (max g.nest body.nest)))))

  first_head_stays : (o : Option Head) (h : Head) → first_head (option_map (renamed_head r) o) (renamed_head r h) ≡ renamed_head r (first_head o h)
  first_head_stays None h = refl
  first_head_stays (Some k) h = refl

  module _ (injective : Injective r) where
    same_index_as : (m n : Name) (b : Bool) → nat_eq m.index n.index ≡ b → nat_eq (r m).index (r n).index ≡ b
    same_index_as m n true e = eq-eqb _ _ (ap (λ i. (r (record { index = i })).index) (eqb-true m.index n.index e))
    same_index_as m n false e = ne_eqb _ _ (λ h. other (eq-eqb m.index n.index (ap (λ z. z.index) (injective m n (ap (λ i. record { index = i }) h)))))
      where
        other : nat_eq m.index n.index ≡ true → ⊥
        other h = cc

    same_name_stays : (m n : Option Name) → same_name (option_map r m) (option_map r n) ≡ same_name m n
    same_name_stays None None = refl
    same_name_stays None (Some n) = refl
    same_name_stays (Some m) None = refl
    same_name_stays (Some m) (Some n) = same_index_as m n (nat_eq m.index n.index) refl

    head_faults_stay : (code : ℕ) (o : Option Head) (h : Head) → head_faults code (option_map (renamed_head r) o) (renamed_head r h) ≡ head_faults code o h
    head_faults_stay code None h = refl
    head_faults_stay code (Some k) h = ap (λ b. cond (b && nat_eq k.arity h.arity) [] (plain h.place code ∷ [])) (same_name_stays k.name h.name)

    headed_stays : (code : ℕ) (cs : Clauses) (h : Head) (ps : Items) (g : Guard) (body : Items)
        → Stays r (headed code (renamed_clauses r cs) (renamed_head r h) (renamed_items r ps) (renamed_guard r g) (renamed_items r body)) (headed code cs h ps g body)
    headed_stays code cs h ps g body s =
        rw (head_faults_stay code cs.first h, first_head_stays cs.first h)
        (with_clause_stays cs (record { place = h.place; patterns = ps.trees; guard = g.tests; body = body.trees }) (Some (first_head cs.first h)) (max (max ps.nest g.nest) body.nest)
        (record { values = s.values; faults = s.faults ++ head_faults code cs.first h; trace = s.trace; deep = s.deep }))

    -- the parameters are as many
    counted_stays : (code : ℕ) (cs : Clauses) (q : Place) (n : Option Name) (ps : Items) (g : Guard) (body : Items)
        → Stays r (headed code (renamed_clauses r cs) (record { place = q; name = option_map r n; arity = length (map (renamed_tree r) ps.trees) }) (renamed_items r ps) (renamed_guard r g) (renamed_items r body))
        (headed code cs (record { place = q; name = n; arity = length ps.trees }) ps g body)
    counted_stays code cs q n ps g body s = rw (length-map ps.trees (renamed_tree r)) (headed_stays code cs (record { place = q; name = n; arity = length ps.trees }) ps g body s)

    pub fun_clause_stays : Stays r fun_clause fun_clause
    fun_clause_stays =
        items_taken r _ _ (λ body. guard_taken r _ _ (λ g. items_taken r _ _ (λ ps. at_taken r _ _ (λ q. clauses_taken r _ _ (λ cs. counted_stays table.fun_head_mismatch cs q None ps g body)))))

    pub named_clause_stays : Stays r named_clause named_clause
    named_clause_stays =
        items_taken r _ _ (λ body. guard_taken r _ _ (λ g. items_taken r _ _ (λ ps. at_taken r _ _ (λ q. leaf_taken r _ _ (λ l. clauses_taken r _ _ (λ cs.
        given_stays r r _ _ _ _ (variable_in_stays r l.0) (λ n. counted_stays table.fun_head_mismatch cs l.1 (Some n) ps g body)))))))

    pub function_clause_stays : Stays r function_clause function_clause
    function_clause_stays =
        items_taken r _ _ (λ body. guard_taken r _ _ (λ g. items_taken r _ _ (λ ps. at_taken r _ _ (λ q. atom_taken r _ _ (λ n. clauses_taken r _ _ (λ cs.
        counted_stays table.head_mismatch cs n.1 (Some n.0) ps g body))))))

  -- ---- what has clauses

  pub if_of_stays : Stays r if_of if_of
  if_of_stays = clauses_taken r _ _ (λ cs. at_taken r _ _ (λ q. made_stays r _ _ _ _ _ (ap t.if_of (clauses_stay r cs.clauses))))

  pub case_of_stays : Stays r case_of case_of
  case_of_stays = clauses_taken r _ _ (λ cs. operand_taken r _ _ (λ x. at_taken r _ _ (λ q. made_stays r _ _ _ _ _ (ap (t.case_of (renamed_tree r x.tree)) (clauses_stay r cs.clauses)))))

  pub receive_of_stays : Stays r receive_of receive_of
  receive_of_stays = clauses_taken r _ _ (λ cs. at_taken r _ _ (λ q. made_stays r _ _ _ _ _ (ap t.receive_of (clauses_stay r cs.clauses))))

  pub receive_after_stays : Stays r receive_after receive_after
  receive_after_stays =
      items_taken r _ _ (λ body. operand_taken r _ _ (λ x. clauses_taken r _ _ (λ cs. at_taken r _ _ (λ q. made_stays r _ _ _ _ (t.receive_after (p.clauses cs.clauses) x.tree (trees body.trees))
      (rw (clauses_stay r cs.clauses, trees_stay r body.trees) refl)))))

  fun_named_stays : (n : Option Name) (cs : List ClauseTree) → fun_named (option_map r n) (map (renamed_clause r) cs) ≡ renamed_shape r (fun_named n cs)
  fun_named_stays None cs = ap t.fun_of (clauses_stay r cs)
  fun_named_stays (Some n) cs = ap (t.named_fun (r n)) (clauses_stay r cs)

  fun_shape_stays : (h : Option Head) (cs : List ClauseTree) → fun_shape (option_map (renamed_head r) h) (map (renamed_clause r) cs) ≡ renamed_shape r (fun_shape h cs)
  fun_shape_stays None cs = ap t.fun_of (clauses_stay r cs)
  fun_shape_stays (Some h) cs = fun_named_stays h.name cs

  pub fun_of_stays : Stays r fun_of fun_of
  fun_of_stays = clauses_taken r _ _ (λ cs. at_taken r _ _ (λ q. made_stays r _ _ _ _ _ (fun_shape_stays cs.first cs.clauses)))

  pub fun_local_stays : Stays r fun_local fun_local
  fun_local_stays =
      leaf_taken r _ _ (λ a. operator_taken r _ _ (λ o. atom_taken r _ _ (λ n. clauses_taken r _ _ (λ none. at_taken r _ _ (λ q. given_are r _ _ _ _ (number_in_stays r a.0) (λ i.
      made_stays r 0 q q _ (t.fun_local n.0 (arity_of i)) refl))))))

  name_shape_stays : (l : Leaf) → name_shape (renamed_leaf r l) ≡ option_map (renamed_shape r) (name_shape l)
  name_shape_stays (atom n) = refl
  name_shape_stays (var n) = refl
  name_shape_stays (any n) = refl
  name_shape_stays _ = refl

  pub fun_remote_stays : Stays r fun_remote fun_remote
  fun_remote_stays =
      operand_taken r _ _ (λ a. operator_taken r _ _ (λ o. operand_taken r _ _ (λ f. leaf_taken r _ _ (λ m. clauses_taken r _ _ (λ none. at_taken r _ _ (λ q.
      given_stays r (renamed_shape r) _ _ _ _ (name_shape_stays m.0) (λ e. made_stays r _ _ _ _ (t.fun_remote (t.tree m.1 e) f.tree a.tree) refl)))))))

  -- ---- `try`

  pub no_catches_stays : Stays r no_catches no_catches
  no_catches_stays s = refl

  pub unclassed_stays : Stays r unclassed unclassed
  unclassed_stays s = refl

  class_of_stays : (l : Leaf) → class_of (renamed_leaf r l) ≡ option_map (renamed_class r) (class_of l)
  class_of_stays (atom n) = refl
  class_of_stays (var n) = refl
  class_of_stays (any n) = refl
  class_of_stays _ = refl

  pub class_stays : Stays r class class
  class_stays = leaf_taken r _ _ (λ l. given_stays r (renamed_class r) _ _ _ _ (class_of_stays l.0) (λ k s. refl))

  pub caught_pattern_stays : Stays r caught_pattern caught_pattern
  caught_pattern_stays = operand_taken r _ _ (λ x. mark_taken r _ _ (λ m s. refl))

  pub catch_clause_stays : Stays r catch_clause catch_clause
  catch_clause_stays =
      items_taken r _ _ (λ body. guard_taken r _ _ (λ g. caught_taken r _ _ (λ c. catches_taken r _ _ (λ cs s.
      rw (map_more (renamed_catch_part r) cs.clauses (record { place = c.place; class = c.class; pattern = c.pattern; trace = c.trace; guard = g.tests; body = body.trees })) refl))))

  some_clauses_stay : (cs : List ClauseTree) → some_clauses (map (renamed_clause r) cs) ≡ renamed_maybe_clauses r (some_clauses cs)
  some_clauses_stay [] = refl
  some_clauses_stay (c ∷ cs) = ap t.these (clauses_stay r (c ∷ cs))

  some_body_stays : (es : List Tree) → some_body (map (renamed_tree r) es) ≡ renamed_maybe_trees r (some_body es)
  some_body_stays [] = refl
  some_body_stays (e ∷ es) = ap t.present (trees_stay r (e ∷ es))

  pub try_of_stays : Stays r try_of try_of
  try_of_stays =
      items_taken r _ _ (λ after. catches_taken r _ _ (λ ks. clauses_taken r _ _ (λ cs. items_taken r _ _ (λ body. at_taken r _ _ (λ q.
      made_stays r _ _ _ _ (t.try_of (trees body.trees) (some_clauses cs.clauses) (part.catches ks.clauses) (some_body after.trees))
      (rw (trees_stay r body.trees, some_clauses_stay cs.clauses, catches_stay r ks.clauses, some_body_stays after.trees) refl))))))

  -- ---- `maybe`

  pub no_steps_stays : Stays r no_steps no_steps
  no_steps_stays s = refl

  pub step_stays : Stays r step step
  step_stays = operand_taken r _ _ (λ x. steps_taken r _ _ (λ ss s. rw (map_more (renamed_step_part r) ss.steps (record { pattern = None; value = x.tree })) refl))

  pub step_match_stays : Stays r step_match step_match
  step_match_stays =
      operand_taken r _ _ (λ e. operand_taken r _ _ (λ p. steps_taken r _ _ (λ ss s. rw (map_more (renamed_step_part r) ss.steps (record { pattern = Some p.tree; value = e.tree })) refl)))

  pub maybe_of_stays : Stays r maybe_of maybe_of
  maybe_of_stays =
      clauses_taken r _ _ (λ cs. steps_taken r _ _ (λ ss. at_taken r _ _ (λ q. made_stays r _ _ _ _ (t.maybe (part.steps ss.steps) (some_clauses cs.clauses))
      (rw (steps_stay r ss.steps, some_clauses_stay cs.clauses) refl))))

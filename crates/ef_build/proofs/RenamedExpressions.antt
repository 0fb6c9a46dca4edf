-- Actions that make expressions of one or a few expressions do the same under other names.
use Rattle.std.proofs.Common.{◌≡◌, ℕ, Bool, true, false, cond, List, [], ◌∷◌, Some, None, refl, ap, map}
use Rattle.std.specs.Option.{option_map}
use Rattle.ef_base.specs.declared.name.Name.{Name}
use Rattle.ef_base.specs.declared.fault.Place.{Place}
use Rattle.ef_forms.specs.Tree.{Tree, Shape, tree}
use Rattle.ef_forms.specs.Tree as t
use Rattle.ef_forms.specs.Plain.{trees}
use Rattle.ef_forms.proofs.Renamed.{renamed_tree, renamed_shape, trees_stay}
use Rattle.ef_build.specs.Values.{Leaf, Value, atom, var, any, int, character, string, operator, operand, mark}
use Rattle.ef_build.specs.Expressions.{leaf_shape, on_leaf, text_of, text_in, place_in, text_in_leaf, join, variable_in, number_in, in_front, between, enclosed, parens, catching, unary, two, matching, and_also, or_else, binary, call, remote, record_new, record_index, record_update, record_field, no_fields, field_name, field, none, add, all, list, tuple, block, list_to, name_arity, at_catch, may_trace, trace_name, trace, drop}
use Rattle.ef_build.proofs.Tops.{map_more}
use Rattle.ef_build.proofs.Renamed.{renamed_leaf, renamed_value, renamed_read, renamed_field_part, fields_stay}
use Rattle.ef_build.proofs.RenamedStack.{Stays, given_stays, given_same, given_are, made_stays, at_taken, operator_taken, leaf_taken, operand_taken, items_taken, fields_taken, atom_taken, value_taken}

kept_if : {X Y : Type 0} (f : X → Y) (b : Bool) (x : X) → cond b (Some (f x)) None ≡ option_map f (cond b (Some x) None)
kept_if f true x = refl
kept_if f false x = refl

module _ (r : Name → Name) where
  -- ---- single tokens

  leaf_shape_stays : (l : Leaf) → leaf_shape (renamed_leaf r l) ≡ renamed_shape r (leaf_shape l)
  leaf_shape_stays (atom n) = refl
  leaf_shape_stays (var n) = refl
  leaf_shape_stays (any n) = refl
  leaf_shape_stays (int i) = refl
  leaf_shape_stays (character c) = refl
  leaf_shape_stays (string cs) = refl

  pub on_leaf_stays : Stays r on_leaf on_leaf
  on_leaf_stays = leaf_taken r _ _ (λ l. made_stays r 0 l.1 l.1 _ _ (leaf_shape_stays l.0))

  text_stays : (e : Shape) → text_of (renamed_shape r e) ≡ text_of e
  text_stays (t.string cs) = refl
  text_stays _ = refl

  text_in_stays : (e : Tree) → text_in (renamed_tree r e) ≡ text_in e
  text_in_stays (tree p e) = text_stays e

  place_in_stays : (e : Tree) → place_in (renamed_tree r e) ≡ place_in e
  place_in_stays (tree p e) = refl

  text_in_leaf_stays : (l : Leaf) → text_in_leaf (renamed_leaf r l) ≡ text_in_leaf l
  text_in_leaf_stays (string cs) = refl
  text_in_leaf_stays _ = refl

  pub join_stays : Stays r join join
  join_stays =
      leaf_taken r _ _ (λ l. operand_taken r _ _ (λ x. given_are r _ _ _ _ (text_in_leaf_stays l.0) (λ second. given_are r _ _ _ _ (text_in_stays x.tree) (λ first s.
      rw (place_in_stays x.tree) refl))))

  pub variable_in_stays : (l : Leaf) → variable_in (renamed_leaf r l) ≡ option_map r (variable_in l)
  variable_in_stays (var n) = refl
  variable_in_stays (any n) = refl
  variable_in_stays _ = refl

  pub number_in_stays : (l : Leaf) → number_in (renamed_leaf r l) ≡ number_in l
  number_in_stays (int i) = refl
  number_in_stays _ = refl

  -- ---- operators

  enclosed_stays : (n : ℕ) (p : Place) (e : Tree) → Stays r (enclosed n p (renamed_tree r e)) (enclosed n p e)
  enclosed_stays n p (tree q e) = made_stays r n p q _ _ refl

  pub parens_stays : Stays r parens parens
  parens_stays = operand_taken r _ _ (λ x. at_taken r _ _ (λ p. enclosed_stays x.nest p x.tree))

  pub catching_stays : Stays r catching catching
  catching_stays = operand_taken r _ _ (λ x. operator_taken r _ _ (λ o. made_stays r _ _ _ _ (t.catching x.tree) refl))

  pub unary_stays : Stays r unary unary
  unary_stays = operand_taken r _ _ (λ x. operator_taken r _ _ (λ o. given_same r (in_front o.0) _ _ (λ u. made_stays r _ _ _ _ (t.unary u x.tree) refl)))

  two_stays : (shape : Tree → Tree → Shape) → ((a b : Tree) → shape (renamed_tree r a) (renamed_tree r b) ≡ renamed_shape r (shape a b)) → Stays r (two shape) (two shape)
  two_stays shape e = operand_taken r _ _ (λ y. operand_taken r _ _ (λ x. made_stays r _ _ _ _ _ (e x.tree y.tree)))

  pub matching_stays : Stays r matching matching
  matching_stays = two_stays t.matching (λ a b. refl)

  pub and_also_stays : Stays r and_also and_also
  and_also_stays = two_stays t.and_also (λ a b. refl)

  pub or_else_stays : Stays r or_else or_else
  or_else_stays = two_stays t.or_else (λ a b. refl)

  pub binary_stays : Stays r binary binary
  binary_stays =
      operand_taken r _ _ (λ y. operator_taken r _ _ (λ o. operand_taken r _ _ (λ x. given_same r (between o.0) _ _ (λ b. made_stays r _ _ _ _ (t.operation b x.tree y.tree) refl))))

  -- ---- calls and records

  pub call_stays : Stays r call call
  call_stays = items_taken r _ _ (λ es. at_taken r _ _ (λ p. operand_taken r _ _ (λ f. made_stays r _ _ _ _ _ (ap (t.call (renamed_tree r f.tree)) (trees_stay r es.trees)))))

  pub remote_stays : Stays r remote remote
  remote_stays =
      items_taken r _ _ (λ es. at_taken r _ _ (λ p. operand_taken r _ _ (λ f. operand_taken r _ _ (λ m.
      made_stays r _ _ _ _ _ (ap (t.remote (renamed_tree r m.tree) (renamed_tree r f.tree)) (trees_stay r es.trees))))))

  pub record_new_stays : Stays r record_new record_new
  record_new_stays =
      fields_taken r _ _ (λ fs. at_taken r _ _ (λ q. atom_taken r _ _ (λ n. at_taken r _ _ (λ p. made_stays r _ _ _ _ _ (ap (t.record_new (r n.0)) (fields_stay r fs.fields))))))

  pub record_index_stays : Stays r record_index record_index
  record_index_stays = atom_taken r _ _ (λ f. atom_taken r _ _ (λ n. at_taken r _ _ (λ p. made_stays r 0 p p _ (t.record_index n.0 f.0) refl)))

  pub record_update_stays : Stays r record_update record_update
  record_update_stays =
      fields_taken r _ _ (λ fs. at_taken r _ _ (λ q. atom_taken r _ _ (λ n. at_taken r _ _ (λ p. operand_taken r _ _ (λ x.
      made_stays r _ _ _ _ _ (ap (t.record_update (renamed_tree r x.tree) (r n.0)) (fields_stay r fs.fields)))))))

  pub record_field_stays : Stays r record_field record_field
  record_field_stays =
      atom_taken r _ _ (λ f. atom_taken r _ _ (λ n. at_taken r _ _ (λ p. operand_taken r _ _ (λ x. made_stays r _ _ _ _ (t.record_field x.tree n.0 f.0) refl))))

  pub no_fields_stays : Stays r no_fields no_fields
  no_fields_stays s = refl

  field_name_stays : (l : Leaf) → field_name (renamed_leaf r l) ≡ option_map (option_map r) (field_name l)
  field_name_stays (atom n) = refl
  field_name_stays (any n) = refl
  field_name_stays _ = refl

  pub field_stays : Stays r field field
  field_stays =
      operand_taken r _ _ (λ x. leaf_taken r _ _ (λ l. fields_taken r _ _ (λ fs. given_stays r (option_map r) _ _ _ _ (field_name_stays l.0) (λ n s.
      rw (map_more (renamed_field_part r) fs.fields (record { place = l.1; name = n; value = x.tree })) refl))))

  -- ---- expressions side by side

  pub none_stays : Stays r none none
  none_stays s = refl

  pub add_stays : Stays r add add
  add_stays = operand_taken r _ _ (λ x. items_taken r _ _ (λ es s. rw (map_more (renamed_tree r) es.trees x.tree) refl))

  all_stays : (shape : List Tree → Shape) → ((es : List Tree) → shape (map (renamed_tree r) es) ≡ renamed_shape r (shape es)) → Stays r (all shape) (all shape)
  all_stays shape e = items_taken r _ _ (λ es. at_taken r _ _ (λ p. made_stays r _ _ _ _ _ (e es.trees)))

  pub list_stays : Stays r list list
  list_stays = all_stays (λ es. t.list (trees es)) (λ es. ap t.list (trees_stay r es))

  pub tuple_stays : Stays r tuple tuple
  tuple_stays = all_stays (λ es. t.tuple (trees es)) (λ es. ap t.tuple (trees_stay r es))

  pub block_stays : Stays r block block
  block_stays = all_stays (λ es. t.block (trees es)) (λ es. ap t.block (trees_stay r es))

  pub list_to_stays : Stays r list_to list_to
  list_to_stays =
      operand_taken r _ _ (λ x. items_taken r _ _ (λ es. at_taken r _ _ (λ p. made_stays r _ _ _ _ _ (ap (λ all. t.list_to all (renamed_tree r x.tree)) (trees_stay r es.trees)))))

  pub name_arity_stays : Stays r name_arity name_arity
  name_arity_stays =
      leaf_taken r _ _ (λ a. operator_taken r _ _ (λ o. atom_taken r _ _ (λ n. given_are r _ _ _ _ (number_in_stays a.0) (λ i.
      made_stays r 1 n.1 n.1 _ (t.tuple (t.more (tree n.1 (t.atom n.0)) (t.more (tree a.1 (t.int i)) t.end))) refl))))

  -- ---- the stack trace of a clause that catches

  at_catch_stays : (vs : List Value) → at_catch (map (renamed_value r) vs) ≡ at_catch vs
  at_catch_stays [] = refl
  at_catch_stays (operand x ∷ vs) = at_catch_stays vs
  at_catch_stays (operator o p ∷ vs) = at_catch_stays vs
  at_catch_stays (mark m ∷ vs) = refl
  at_catch_stays (_ ∷ vs) = refl

  pub may_trace_stays : Stays r may_trace may_trace
  may_trace_stays s = rw (at_catch_stays s.values) (kept_if (renamed_read r) (at_catch s.values) s)

  trace_name_stays : (l : Leaf) → trace_name (renamed_leaf r l) ≡ option_map (option_map r) (trace_name l)
  trace_name_stays (var n) = refl
  trace_name_stays (any n) = refl
  trace_name_stays _ = refl

  pub trace_stays : Stays r trace trace
  trace_stays =
      leaf_taken r _ _ (λ l. given_stays r (option_map r) _ _ _ _ (trace_name_stays l.0) (λ n s.
      rw (at_catch_stays s.values) (kept_if (renamed_read r) (at_catch s.values) (record { values = s.values; faults = s.faults; trace = n; deep = s.deep }))))

  pub drop_stays : Stays r drop drop
  drop_stays = value_taken r _ _ (λ v s. refl)

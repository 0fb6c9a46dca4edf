-- Taking values from the stack and putting others there under other names. The lemma of an action follows the action: for
-- `take` of a kind of value it has the `_taken` of that kind, for `given` one of the three below, and for a tree `made_stays`.
use Rattle.std.proofs.Common.{◌≡◌, ℕ, Bool, true, false, nat_lt, List, [], ◌∷◌, Option, Some, None, refl, ap, map}
use Rattle.std.specs.Prelude.{if◌then◌else◌}
use Rattle.std.specs.Option.{option_map}
use Rattle.ef_base.specs.declared.name.Name.{Name}
use Rattle.ef_base.specs.declared.fault.Place.{Place}
use Rattle.ef_forms.specs.declared.form.FunctionRef.{FunctionRef}
use Rattle.ef_forms.specs.Tree.{Shape, FieldTree}
use Rattle.ef_forms.proofs.Renamed.{renamed_shape, renamed_reference, renamed_field_tree, renamed_form}
use Rattle.ef_build.specs.declared.value.Mark.{Mark}
use Rattle.ef_build.specs.declared.value.Operator.{Operator}
use Rattle.ef_build.specs.Values.{Leaf, Operand, Items, Guard, Clauses, Caught, Catches, OpenSegment, Segments, Qualifiers, Steps, Fields, Value, Read, atom, at, operator, leaf, operand, items, guard, clauses, mark, caught, catches, open_segment, segments, qualifiers, steps, fields, definitions, references, form}
use Rattle.ef_build.specs.Stack.{Action, rest, under, given, take, put, made, most_nesting, top_at, top_operator, top_leaf, top_operand, top_items, top_guard, top_clauses, top_mark, top_caught, top_catches, top_open_segment, top_segments, top_qualifiers, top_steps, top_fields, top_definitions, top_references, top_form, nothing}
use Rattle.ef_build.specs.Expressions.{top_atom, top_value}
use Rattle.ef_build.proofs.Renamed.{renamed_leaf, renamed_operand, renamed_items, renamed_guard, renamed_clauses, renamed_mark, renamed_caught, renamed_catches, renamed_open_segment, renamed_segments, renamed_qualifiers, renamed_steps, renamed_fields, renamed_value, renamed_read}

picked : {X Y : Type 0} (f : X → Y) (b : Bool) (x y : X) → (if b then Some (f x) else Some (f y)) ≡ option_map f (if b then Some x else Some y)
picked f true x y = refl
picked f false x y = refl

module _ (r : Name → Name) where
  -- The one action does under the new names what the other does under the old ones.
  abbrev pub Stays : Action → Action → Type 0
  Stays new old = (s : Read) → new (renamed_read r s) ≡ option_map (renamed_read r) (old s)

  -- what it finds on top under the new names is what it finds under the old ones, renamed
  abbrev pub Finds : {A : Type 0} → (A → A) → (List Value → Option A) → Type 0
  Finds renamed top = (vs : List Value) → top (map (renamed_value r) vs) ≡ option_map renamed (top vs)

  rest_stays : (vs : List Value) → rest (map (renamed_value r) vs) ≡ map (renamed_value r) (rest vs)
  rest_stays [] = refl
  rest_stays (v ∷ vs) = refl

  under_stays : (s : Read) → under (renamed_read r s) ≡ renamed_read r (under s)
  under_stays s = ap (λ vs. record { values = vs; faults = s.faults; trace = option_map r s.trace; deep = s.deep }) (rest_stays s.values)

  given_as : {A : Type 0} (renamed : A → A) (o : Option A) (f g : A → Action) → ((x : A) → Stays (f (renamed x)) (g x)) → Stays (given (option_map renamed o) f) (given o g)
  given_as renamed (Some x) f g h s = h x s
  given_as renamed None f g h s = refl

  pub given_stays : {A : Type 0} (renamed : A → A) (o' o : Option A) (f g : A → Action) → o' ≡ option_map renamed o → ((x : A) → Stays (f (renamed x)) (g x)) → Stays (given o' f) (given o g)
  given_stays renamed o' o f g e h s = rw e (given_as renamed o f g h s)

  -- what holds no names
  pub given_same : {A : Type 0} (o : Option A) (f g : A → Action) → ((x : A) → Stays (f x) (g x)) → Stays (given o f) (given o g)
  given_same None f g h s = refl
  given_same (Some x) f g h s = h x s

  pub given_are : {A : Type 0} (o' o : Option A) (f g : A → Action) → o' ≡ o → ((x : A) → Stays (f x) (g x)) → Stays (given o' f) (given o g)
  given_are o' o f g e h s = rw e (given_same o f g h s)

  pub take_stays : {A : Type 0} (renamed : A → A) (top : List Value → Option A) → Finds renamed top
      → (f g : A → Action) → ((x : A) → Stays (f (renamed x)) (g x)) → Stays (take top f) (take top g)
  take_stays renamed top finds f g h s = rw (finds s.values, under_stays s) (given_as renamed (top s.values) f g h (under s))

  pub put_stays : (v' v : Value) → v' ≡ renamed_value r v → Stays (put v') (put v)
  put_stays v' v e s = rw e refl

  pub made_stays : (n : ℕ) (p q : Place) (e' e : Shape) → e' ≡ renamed_shape r e → Stays (made n p q e') (made n p q e)
  made_stays n p q e' e same s = rw same (picked (renamed_read r) (nat_lt n most_nesting) _ _)

  -- ---- the last value, of each kind

  finds_at : Finds (λ p. p) top_at
  finds_at [] = refl
  finds_at (at p ∷ vs) = refl
  finds_at (_ ∷ vs) = refl

  pub at_taken : (f g : Place → Action) → ((x : Place) → Stays (f x) (g x)) → Stays (take top_at f) (take top_at g)
  at_taken f g h = take_stays (λ p. p) top_at finds_at f g h

  finds_operator : Finds (λ o. o) top_operator
  finds_operator [] = refl
  finds_operator (operator o p ∷ vs) = refl
  finds_operator (_ ∷ vs) = refl

  pub operator_taken : (f g : (Operator × Place) → Action) → ((x : Operator × Place) → Stays (f x) (g x)) → Stays (take top_operator f) (take top_operator g)
  operator_taken f g h = take_stays (λ o. o) top_operator finds_operator f g h

  finds_leaf : Finds (λ l. (renamed_leaf r l.0, l.1)) top_leaf
  finds_leaf [] = refl
  finds_leaf (leaf l p ∷ vs) = refl
  finds_leaf (_ ∷ vs) = refl

  pub leaf_taken : (f g : (Leaf × Place) → Action) → ((x : Leaf × Place) → Stays (f (renamed_leaf r x.0, x.1)) (g x)) → Stays (take top_leaf f) (take top_leaf g)
  leaf_taken f g h = take_stays (λ l. (renamed_leaf r l.0, l.1)) top_leaf finds_leaf f g h

  finds_operand : Finds (renamed_operand r) top_operand
  finds_operand [] = refl
  finds_operand (operand x ∷ vs) = refl
  finds_operand (_ ∷ vs) = refl

  pub operand_taken : (f g : Operand → Action) → ((x : Operand) → Stays (f (renamed_operand r x)) (g x)) → Stays (take top_operand f) (take top_operand g)
  operand_taken f g h = take_stays (renamed_operand r) top_operand finds_operand f g h

  finds_items : Finds (renamed_items r) top_items
  finds_items [] = refl
  finds_items (items x ∷ vs) = refl
  finds_items (_ ∷ vs) = refl

  pub items_taken : (f g : Items → Action) → ((x : Items) → Stays (f (renamed_items r x)) (g x)) → Stays (take top_items f) (take top_items g)
  items_taken f g h = take_stays (renamed_items r) top_items finds_items f g h

  finds_guard : Finds (renamed_guard r) top_guard
  finds_guard [] = refl
  finds_guard (guard x ∷ vs) = refl
  finds_guard (_ ∷ vs) = refl

  pub guard_taken : (f g : Guard → Action) → ((x : Guard) → Stays (f (renamed_guard r x)) (g x)) → Stays (take top_guard f) (take top_guard g)
  guard_taken f g h = take_stays (renamed_guard r) top_guard finds_guard f g h

  finds_clauses : Finds (renamed_clauses r) top_clauses
  finds_clauses [] = refl
  finds_clauses (clauses x ∷ vs) = refl
  finds_clauses (_ ∷ vs) = refl

  pub clauses_taken : (f g : Clauses → Action) → ((x : Clauses) → Stays (f (renamed_clauses r x)) (g x)) → Stays (take top_clauses f) (take top_clauses g)
  clauses_taken f g h = take_stays (renamed_clauses r) top_clauses finds_clauses f g h

  finds_mark : Finds (renamed_mark r) top_mark
  finds_mark [] = refl
  finds_mark (mark m ∷ vs) = refl
  finds_mark (_ ∷ vs) = refl

  pub mark_taken : (f g : Mark → Action) → ((x : Mark) → Stays (f (renamed_mark r x)) (g x)) → Stays (take top_mark f) (take top_mark g)
  mark_taken f g h = take_stays (renamed_mark r) top_mark finds_mark f g h

  finds_caught : Finds (renamed_caught r) top_caught
  finds_caught [] = refl
  finds_caught (caught x ∷ vs) = refl
  finds_caught (_ ∷ vs) = refl

  pub caught_taken : (f g : Caught → Action) → ((x : Caught) → Stays (f (renamed_caught r x)) (g x)) → Stays (take top_caught f) (take top_caught g)
  caught_taken f g h = take_stays (renamed_caught r) top_caught finds_caught f g h

  finds_catches : Finds (renamed_catches r) top_catches
  finds_catches [] = refl
  finds_catches (catches x ∷ vs) = refl
  finds_catches (_ ∷ vs) = refl

  pub catches_taken : (f g : Catches → Action) → ((x : Catches) → Stays (f (renamed_catches r x)) (g x)) → Stays (take top_catches f) (take top_catches g)
  catches_taken f g h = take_stays (renamed_catches r) top_catches finds_catches f g h

  finds_open_segment : Finds (renamed_open_segment r) top_open_segment
  finds_open_segment [] = refl
  finds_open_segment (open_segment x ∷ vs) = refl
  finds_open_segment (_ ∷ vs) = refl

  pub open_segment_taken : (f g : OpenSegment → Action) → ((x : OpenSegment) → Stays (f (renamed_open_segment r x)) (g x)) → Stays (take top_open_segment f) (take top_open_segment g)
  open_segment_taken f g h = take_stays (renamed_open_segment r) top_open_segment finds_open_segment f g h

  finds_segments : Finds (renamed_segments r) top_segments
  finds_segments [] = refl
  finds_segments (segments x ∷ vs) = refl
  finds_segments (_ ∷ vs) = refl

  pub segments_taken : (f g : Segments → Action) → ((x : Segments) → Stays (f (renamed_segments r x)) (g x)) → Stays (take top_segments f) (take top_segments g)
  segments_taken f g h = take_stays (renamed_segments r) top_segments finds_segments f g h

  finds_qualifiers : Finds (renamed_qualifiers r) top_qualifiers
  finds_qualifiers [] = refl
  finds_qualifiers (qualifiers x ∷ vs) = refl
  finds_qualifiers (_ ∷ vs) = refl

  pub qualifiers_taken : (f g : Qualifiers → Action) → ((x : Qualifiers) → Stays (f (renamed_qualifiers r x)) (g x)) → Stays (take top_qualifiers f) (take top_qualifiers g)
  qualifiers_taken f g h = take_stays (renamed_qualifiers r) top_qualifiers finds_qualifiers f g h

  finds_steps : Finds (renamed_steps r) top_steps
  finds_steps [] = refl
  finds_steps (steps x ∷ vs) = refl
  finds_steps (_ ∷ vs) = refl

  pub steps_taken : (f g : Steps → Action) → ((x : Steps) → Stays (f (renamed_steps r x)) (g x)) → Stays (take top_steps f) (take top_steps g)
  steps_taken f g h = take_stays (renamed_steps r) top_steps finds_steps f g h

  finds_fields : Finds (renamed_fields r) top_fields
  finds_fields [] = refl
  finds_fields (fields x ∷ vs) = refl
  finds_fields (_ ∷ vs) = refl

  pub fields_taken : (f g : Fields → Action) → ((x : Fields) → Stays (f (renamed_fields r x)) (g x)) → Stays (take top_fields f) (take top_fields g)
  fields_taken f g h = take_stays (renamed_fields r) top_fields finds_fields f g h

  finds_definitions : Finds (map (renamed_field_tree r)) top_definitions
  finds_definitions [] = refl
  finds_definitions (definitions ds ∷ vs) = refl
  finds_definitions (_ ∷ vs) = refl

  pub definitions_taken : (f g : List FieldTree → Action) → ((x : List FieldTree) → Stays (f (map (renamed_field_tree r) x)) (g x)) → Stays (take top_definitions f) (take top_definitions g)
  definitions_taken f g h = take_stays (map (renamed_field_tree r)) top_definitions finds_definitions f g h

  finds_references : Finds (map (renamed_reference r)) top_references
  finds_references [] = refl
  finds_references (references fs ∷ vs) = refl
  finds_references (_ ∷ vs) = refl

  pub references_taken : (f g : List FunctionRef → Action) → ((x : List FunctionRef) → Stays (f (map (renamed_reference r) x)) (g x)) → Stays (take top_references f) (take top_references g)
  references_taken f g h = take_stays (map (renamed_reference r)) top_references finds_references f g h

  finds_atom : Finds (λ n. (r n.0, n.1)) top_atom
  finds_atom [] = refl
  finds_atom (leaf (atom n) p ∷ vs) = refl
  finds_atom (_ ∷ vs) = refl

  pub atom_taken : (f g : (Name × Place) → Action) → ((x : Name × Place) → Stays (f (r x.0, x.1)) (g x)) → Stays (take top_atom f) (take top_atom g)
  atom_taken f g h = take_stays (λ n. (r n.0, n.1)) top_atom finds_atom f g h

  finds_value : Finds (renamed_value r) top_value
  finds_value [] = refl
  finds_value (v ∷ vs) = refl

  pub value_taken : (f g : Value → Action) → ((x : Value) → Stays (f (renamed_value r x)) (g x)) → Stays (take top_value f) (take top_value g)
  value_taken f g h = take_stays (renamed_value r) top_value finds_value f g h

  -- the form that has been read, and what there is before the first token
  pub finds_form : Finds (renamed_form r) top_form
  finds_form [] = refl
  finds_form (form f ∷ vs) = refl
  finds_form (_ ∷ vs) = refl

  pub nothing_stays : renamed_read r nothing ≡ nothing
  nothing_stays = refl

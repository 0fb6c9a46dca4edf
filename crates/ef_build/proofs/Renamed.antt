-- What has been read, under other names.
use Rattle.std.proofs.Common.{◌≡◌, List, [], ◌∷◌, Option, Some, None, refl, map}
use Rattle.std.specs.Option.{option_map}
use Rattle.ef_base.specs.declared.name.Name.{Name}
use Rattle.ef_base.specs.declared.fault.Place.{Place}
use Rattle.ef_forms.specs.declared.expr.TypeWord.{TypeWord}
use Rattle.ef_forms.specs.Tree.{Tree}
use Rattle.ef_forms.specs.Plain.{segment_of, step_of}
use Rattle.ef_forms.specs.Tree as t
use Rattle.ef_forms.proofs.Renamed as tr
use Rattle.ef_forms.proofs.Renamed.{renamed_class, renamed_word, renamed_tree, renamed_tests, renamed_clause, renamed_reference, renamed_field_tree, renamed_form, trees_stay, guards_stay}
use Rattle.ef_build.specs.declared.value.Head.{Head}
use Rattle.ef_build.specs.declared.value.Mark.{Mark}
use Rattle.ef_build.specs.Parts as part
use Rattle.ef_build.specs.Parts.{CatchPart, SegmentPart, FieldPart, StepPart, QualifierPart, from_list, from_bits, test}
use Rattle.ef_build.specs.Values.{Leaf, Operand, Items, Guard, Clauses, Caught, Catches, OpenSegment, Segments, Qualifiers, Steps, Fields, Value, Read, atom, var, any, int, character, string, at, operator, leaf, operand, items, guard, clauses, mark, caught, catches, open_segment, segments, qualifiers, steps, fields, definitions, references, form}

module _ (r : Name → Name) where
  -- ---- parts

  abbrev pub renamed_catch_part : CatchPart → CatchPart
  renamed_catch_part c = record {
    place = c.place;
    class = renamed_class r c.class;
    pattern = renamed_tree r c.pattern;
    trace = option_map r c.trace;
    guard = renamed_tests r c.guard;
    body = map (renamed_tree r) c.body;
  }

  abbrev pub renamed_segment_part : SegmentPart → SegmentPart
  renamed_segment_part s = record { place = s.place; value = renamed_tree r s.value; size = option_map (renamed_tree r) s.size; types = map (renamed_word r) s.types }

  abbrev pub renamed_field_part : FieldPart → FieldPart
  renamed_field_part f = record { place = f.place; name = option_map r f.name; value = renamed_tree r f.value }

  abbrev pub renamed_step_part : StepPart → StepPart
  renamed_step_part s = record { pattern = option_map (renamed_tree r) s.pattern; value = renamed_tree r s.value }

  abbrev pub renamed_qualifier_part : QualifierPart → QualifierPart
  renamed_qualifier_part (from_list p e strict) = from_list (renamed_tree r p) (renamed_tree r e) strict
  renamed_qualifier_part (from_bits p e strict) = from_bits (renamed_tree r p) (renamed_tree r e) strict
  renamed_qualifier_part (test e) = test (renamed_tree r e)

  pub catches_stay : (ks : List CatchPart) → part.catches (map renamed_catch_part ks) ≡ tr.renamed_catches r (part.catches ks)
  catches_stay [] = refl
  catches_stay (k ∷ ks) = rw (guards_stay r k.guard, trees_stay r k.body, catches_stay ks) refl

  segment_stays : (p : Place) (e : Tree) (n : Option Tree) (ws : List TypeWord) (ss : t.Segments)
      → segment_of p (renamed_tree r e) (option_map (renamed_tree r) n) (map (renamed_word r) ws) (tr.renamed_segments r ss) ≡ tr.renamed_segments r (segment_of p e n ws ss)
  segment_stays p e None ws ss = refl
  segment_stays p e (Some n) ws ss = refl

  pub segments_stay : (ss : List SegmentPart) → part.segments (map renamed_segment_part ss) ≡ tr.renamed_segments r (part.segments ss)
  segments_stay [] = refl
  segments_stay (s ∷ ss) = rw (segments_stay ss) (segment_stays s.place s.value s.size s.types (part.segments ss))

  pub fields_stay : (fs : List FieldPart) → part.fields (map renamed_field_part fs) ≡ tr.renamed_fields r (part.fields fs)
  fields_stay [] = refl
  fields_stay (f ∷ fs) = rw (fields_stay fs) refl

  step_stays : (p : Option Tree) (e : Tree) (ss : t.Steps) → step_of (option_map (renamed_tree r) p) (renamed_tree r e) (tr.renamed_steps r ss) ≡ tr.renamed_steps r (step_of p e ss)
  step_stays None e ss = refl
  step_stays (Some p) e ss = refl

  pub steps_stay : (ss : List StepPart) → part.steps (map renamed_step_part ss) ≡ tr.renamed_steps r (part.steps ss)
  steps_stay [] = refl
  steps_stay (s ∷ ss) = rw (steps_stay ss) (step_stays s.pattern s.value (part.steps ss))

  pub qualifiers_stay : (qs : List QualifierPart) → part.qualifiers (map renamed_qualifier_part qs) ≡ tr.renamed_qualifiers r (part.qualifiers qs)
  qualifiers_stay [] = refl
  qualifiers_stay (from_list p e strict ∷ qs) = rw (qualifiers_stay qs) refl
  qualifiers_stay (from_bits p e strict ∷ qs) = rw (qualifiers_stay qs) refl
  qualifiers_stay (test e ∷ qs) = rw (qualifiers_stay qs) refl

  -- ---- values

  abbrev pub renamed_leaf : Leaf → Leaf
  renamed_leaf (atom n) = atom (r n)
  renamed_leaf (var n) = var (r n)
  renamed_leaf (any n) = any (r n)
  renamed_leaf (int i) = int i
  renamed_leaf (character c) = character c
  renamed_leaf (string cs) = string cs

  abbrev pub renamed_operand : Operand → Operand
  renamed_operand x = record { start = x.start; nest = x.nest; tree = renamed_tree r x.tree }

  abbrev pub renamed_items : Items → Items
  renamed_items x = record { trees = map (renamed_tree r) x.trees; start = x.start; nest = x.nest }

  abbrev pub renamed_guard : Guard → Guard
  renamed_guard x = record { tests = renamed_tests r x.tests; start = x.start; nest = x.nest }

  abbrev pub renamed_head : Head → Head
  renamed_head h = record { place = h.place; name = option_map r h.name; arity = h.arity }

  abbrev pub renamed_clauses : Clauses → Clauses
  renamed_clauses x = record { clauses = map (renamed_clause r) x.clauses; first = option_map renamed_head x.first; nest = x.nest }

  abbrev pub renamed_mark : Mark → Mark
  renamed_mark m = record { place = m.place; class = renamed_class r m.class }

  abbrev pub renamed_caught : Caught → Caught
  renamed_caught x = record { place = x.place; class = renamed_class r x.class; pattern = renamed_tree r x.pattern; trace = option_map r x.trace; nest = x.nest }

  abbrev pub renamed_catches : Catches → Catches
  renamed_catches x = record { clauses = map renamed_catch_part x.clauses; nest = x.nest }

  abbrev pub renamed_open_segment : OpenSegment → OpenSegment
  renamed_open_segment x = record { part = renamed_segment_part x.part; nest = x.nest }

  abbrev pub renamed_segments : Segments → Segments
  renamed_segments x = record { segments = map renamed_segment_part x.segments; nest = x.nest }

  abbrev pub renamed_qualifiers : Qualifiers → Qualifiers
  renamed_qualifiers x = record { qualifiers = map renamed_qualifier_part x.qualifiers; levels = x.levels; nest = x.nest }

  abbrev pub renamed_steps : Steps → Steps
  renamed_steps x = record { steps = map renamed_step_part x.steps; levels = x.levels; nest = x.nest }

  abbrev pub renamed_fields : Fields → Fields
  renamed_fields x = record { fields = map renamed_field_part x.fields; nest = x.nest }

  abbrev pub renamed_value : Value → Value
  renamed_value (at p) = at p
  renamed_value (operator o p) = operator o p
  renamed_value (leaf l p) = leaf (renamed_leaf l) p
  renamed_value (operand x) = operand (renamed_operand x)
  renamed_value (items x) = items (renamed_items x)
  renamed_value (guard x) = guard (renamed_guard x)
  renamed_value (clauses x) = clauses (renamed_clauses x)
  renamed_value (mark m) = mark (renamed_mark m)
  renamed_value (caught x) = caught (renamed_caught x)
  renamed_value (catches x) = catches (renamed_catches x)
  renamed_value (open_segment x) = open_segment (renamed_open_segment x)
  renamed_value (segments x) = segments (renamed_segments x)
  renamed_value (qualifiers x) = qualifiers (renamed_qualifiers x)
  renamed_value (steps x) = steps (renamed_steps x)
  renamed_value (fields x) = fields (renamed_fields x)
  renamed_value (definitions ds) = definitions (map (renamed_field_tree r) ds)
  renamed_value (references fs) = references (map (renamed_reference r) fs)
  renamed_value (form f) = form (renamed_form r f)

  -- faults hold no names
  abbrev pub renamed_read : Read → Read
  renamed_read s = record { values = map renamed_value s.values; faults = s.faults; trace = option_map r s.trace; deep = s.deep }

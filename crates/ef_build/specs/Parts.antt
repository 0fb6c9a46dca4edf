-- Parts of trees that are read one by one, before they are joined.
use Rattle.std.specs.Prelude.{Bool, List, [], ◌∷◌, Option, map, Vec}
use Rattle.std.specs.Option.{option_map}
use Rattle.std.specs.declared.alloc.Global.{Global}
use Rattle.ef_base.specs.declared.fault.Place.{Place}
use Rattle.ef_base.specs.declared.name.Name.{Name}
use Rattle.ef_forms.specs.declared.expr.Expr.{Expr}
use Rattle.ef_forms.specs.declared.expr.CatchClause.{CatchClause, out-CatchClause}
use Rattle.ef_forms.specs.declared.expr.ClassPart.{ClassPart}
use Rattle.ef_forms.specs.declared.expr.FieldSet.{FieldSet, out-FieldSet}
use Rattle.ef_forms.specs.declared.expr.MaybeStep.{MaybeStep, out-MaybeStep}
use Rattle.ef_forms.specs.declared.expr.Node.{Node}
use Rattle.ef_forms.specs.declared.expr.Node.TheOpen as layer
use Rattle.ef_forms.specs.declared.expr.Node.TheOpen.{Qualifier-F}
use Rattle.ef_forms.specs.declared.expr.Clause.{Clause}
use Rattle.ef_forms.specs.declared.expr.Qualifier.{Qualifier, out-Qualifier}
use Rattle.ef_forms.specs.declared.expr.Segment.{Segment, out-Segment}
use Rattle.ef_forms.specs.declared.expr.TypeWord.{TypeWord}
use Rattle.ef_forms.specs.Tree as t
use Rattle.ef_forms.specs.Tree.{Tree, Catches, Fields, Qualifiers, Segments, Steps}
use Rattle.ef_forms.specs.Plain.{guards, plain, segment_of, step_of, trees}

-- a clause that catches
pub record CatchPart : Type 0 where
  pub place : Place
  pub class : ClassPart
  pub pattern : Tree
  pub trace : Option Name
  pub guard : List (List Tree)
  pub body : List Tree

-- a segment of a binary
pub record SegmentPart : Type 0 where
  pub place : Place
  pub value : Tree
  pub size : Option Tree
  pub types : List TypeWord

-- a setting of a field; `_` has no name
pub record FieldPart : Type 0 where
  pub place : Place
  pub name : Option Name
  pub value : Tree

-- a step of `maybe`
pub record StepPart : Type 0 where
  pub pattern : Option Tree
  pub value : Tree

-- a generator with its pattern, its source and whether it is strict, or a filter
pub data QualifierPart : Type 0 where
  from_list : Tree → Tree → Bool → QualifierPart
  from_bits : Tree → Tree → Bool → QualifierPart
  test : Tree → QualifierPart

abbrev pub catches : List CatchPart → Catches
catches [] = t.no_catches
catches (c ∷ cs) = t.catches c.place c.class c.pattern c.trace (guards c.guard) (trees c.body) (catches cs)

abbrev pub segments : List SegmentPart → Segments
segments [] = t.no_segments
segments (s ∷ ss) = segment_of s.place s.value s.size s.types (segments ss)

abbrev pub fields : List FieldPart → Fields
fields [] = t.no_fields
fields (f ∷ fs) = t.field f.place f.name f.value (fields fs)

abbrev pub steps : List StepPart → Steps
steps [] = t.no_steps
steps (s ∷ ss) = step_of s.pattern s.value (steps ss)

abbrev pub qualified : QualifierPart → Qualifiers → Qualifiers
qualified (from_list p e b) qs = t.list_from p e b qs
qualified (from_bits p e b) qs = t.bits_from p e b qs
qualified (test e) qs = t.filter e qs

abbrev pub qualifiers : List QualifierPart → Qualifiers
qualifiers [] = t.no_qualifiers
qualifiers (q ∷ qs) = qualified q (qualifiers qs)

-- ---- the parts that values of the program stand for

abbrev pub catch_part : CatchClause → CatchPart
catch_part c = record {
  place = (out-CatchClause c).place;
  class = (out-CatchClause c).class;
  pattern = plain (out-CatchClause c).pattern;
  trace = (out-CatchClause c).trace;
  guard = map (λ (es : Vec Expr Global). map plain es.items) (out-CatchClause c).guard.items;
  body = map plain (out-CatchClause c).body.items;
}

abbrev pub segment_part : Segment → SegmentPart
segment_part s = record { place = (out-Segment s).place; value = plain (out-Segment s).value; size = option_map plain (out-Segment s).size; types = (out-Segment s).types.items }

abbrev pub field_part : FieldSet → FieldPart
field_part f = record { place = (out-FieldSet f).place; name = (out-FieldSet f).field; value = plain (out-FieldSet f).value }

abbrev pub step_part : MaybeStep → StepPart
step_part s = record { pattern = option_map plain (out-MaybeStep s).pattern; value = plain (out-MaybeStep s).value }

abbrev pub qualifier_layer : Qualifier-F Node Qualifier CatchClause Clause Expr FieldSet MaybeStep Segment → QualifierPart
qualifier_layer (layer.ListFrom p e b) = from_list (plain p) (plain e) b
qualifier_layer (layer.BitsFrom p e b) = from_bits (plain p) (plain e) b
qualifier_layer (layer.Filter e) = test (plain e)

abbrev pub qualifier_part : Qualifier → QualifierPart
qualifier_part q = qualifier_layer (out-Qualifier q)

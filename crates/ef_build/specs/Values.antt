-- What has been read of tokens: a stack of values, and what is noted beside it.
use Rattle.std.specs.Prelude.{ℕ, ℤ, Bool, List, Option, map, reverse, Vec, Box}
use Rattle.std.specs.Option.{option_map}
use Rattle.std.specs.declared.alloc.Global.{Global}
use Rattle.ef_base.specs.declared.fault.Fault.{Fault}
use Rattle.ef_base.specs.declared.fault.Place.{Place}
use Rattle.ef_base.specs.declared.name.Name.{Name}
use Rattle.ef_forms.specs.declared.expr.ClassPart.{ClassPart}
use Rattle.ef_forms.specs.declared.expr.Expr.{Expr}
use Rattle.ef_forms.specs.declared.form.FunctionRef.{FunctionRef}
use Rattle.ef_forms.specs.Tree.{Tree, FieldTree, FormTree}
use Rattle.ef_forms.specs.Plain.{ClauseTree, plain, plain_clause, plain_field_def, plain_form}
use Rattle.ef_build.specs.declared.value.Operator.{Operator}
use Rattle.ef_build.specs.declared.value.Head.{Head}
use Rattle.ef_build.specs.declared.value.Mark.{Mark}
use Rattle.ef_build.specs.declared.value.Leaf.{Leaf as TheLeaf}
use Rattle.ef_build.specs.declared.value.Leaf.TheVariants as leaf_is
use Rattle.ef_build.specs.declared.value.Operand.{Operand as TheOperand}
use Rattle.ef_build.specs.declared.value.Items.{Items as TheItems}
use Rattle.ef_build.specs.declared.value.Guard.{Guard as TheGuard}
use Rattle.ef_build.specs.declared.value.Clauses.{Clauses as TheClauses}
use Rattle.ef_build.specs.declared.value.Caught.{Caught as TheCaught}
use Rattle.ef_build.specs.declared.value.Catches.{Catches as TheCatches}
use Rattle.ef_build.specs.declared.value.OpenSegment.{OpenSegment as TheOpenSegment}
use Rattle.ef_build.specs.declared.value.Segments.{Segments as TheSegments}
use Rattle.ef_build.specs.declared.value.Qualifiers.{Qualifiers as TheQualifiers}
use Rattle.ef_build.specs.declared.value.Steps.{Steps as TheSteps}
use Rattle.ef_build.specs.declared.value.Fields.{Fields as TheFields}
use Rattle.ef_build.specs.declared.value.Value.{Value as TheValue}
use Rattle.ef_build.specs.declared.value.Value.TheVariants as value_is
use Rattle.ef_build.specs.declared.stack.Read.{Read as TheRead}
use Rattle.ef_build.specs.Parts.{CatchPart, SegmentPart, FieldPart, StepPart, QualifierPart, catch_part, segment_part, field_part, step_part, qualifier_part}

-- a token that is an expression of its own
pub data Leaf : Type 0 where
  atom : Name → Leaf
  var : Name → Leaf
  -- `_`
  any : Name → Leaf
  int : ℤ → Leaf
  character : ℕ → Leaf
  string : List ℕ → Leaf

-- an expression, its nesting, and the place of its first token, a parenthesis among them
pub record Operand : Type 0 where
  pub start : Place
  pub nest : ℕ
  pub tree : Tree

-- expressions side by side, where the first one starts, and the greatest nesting
pub record Items : Type 0 where
  pub trees : List Tree
  pub start : Option Place
  pub nest : ℕ

pub record Guard : Type 0 where
  pub tests : List (List Tree)
  pub start : Option Place
  pub nest : ℕ

-- clauses, and the head of the first one if they have heads
pub record Clauses : Type 0 where
  pub clauses : List ClauseTree
  pub first : Option Head
  pub nest : ℕ

-- the front of a clause that catches, up to its guard
pub record Caught : Type 0 where
  pub place : Place
  pub class : ClassPart
  pub pattern : Tree
  pub trace : Option Name
  pub nest : ℕ

pub record Catches : Type 0 where
  pub clauses : List CatchPart
  pub nest : ℕ

-- a segment, as far as it has been read
pub record OpenSegment : Type 0 where
  pub part : SegmentPart
  pub nest : ℕ

pub record Segments : Type 0 where
  pub segments : List SegmentPart
  pub nest : ℕ

-- qualifiers, how many levels they put on what stands behind them, and the greatest nesting
pub record Qualifiers : Type 0 where
  pub qualifiers : List QualifierPart
  pub levels : ℕ
  pub nest : ℕ

pub record Steps : Type 0 where
  pub steps : List StepPart
  pub levels : ℕ
  pub nest : ℕ

pub record Fields : Type 0 where
  pub fields : List FieldPart
  pub nest : ℕ

pub data Value : Type 0 where
  -- a bracket or a word that opens a construct
  at : Place → Value
  operator : Operator → Place → Value
  leaf : Leaf → Place → Value
  operand : Operand → Value
  items : Items → Value
  guard : Guard → Value
  clauses : Clauses → Value
  -- what stands in front of the pattern of a clause that catches
  mark : Mark → Value
  caught : Caught → Value
  catches : Catches → Value
  open_segment : OpenSegment → Value
  segments : Segments → Value
  qualifiers : Qualifiers → Value
  steps : Steps → Value
  fields : Fields → Value
  definitions : List FieldTree → Value
  references : List FunctionRef → Value
  form : FormTree → Value

-- The values, the last one first; the faults of heads that differ from the first of their function or fun; the name of the
-- stack trace, from where it is read to the end of its pattern; and whether something was nested too deep.
pub record Read : Type 0 where
  pub values : List Value
  pub faults : List Fault
  pub trace : Option Name
  pub deep : Bool

-- ---- what values of the program stand for

abbrev pub leaf_of : TheLeaf → Leaf
leaf_of (leaf_is.Atom n) = atom n
leaf_of (leaf_is.Var n) = var n
leaf_of (leaf_is.Any n) = any n
leaf_of (leaf_is.Int i) = int i
leaf_of (leaf_is.Char c) = character c
leaf_of (leaf_is.Str cs) = string cs

abbrev pub operand_of : TheOperand → Operand
operand_of x = record { start = x.start; nest = x.nest; tree = plain x.expr }

abbrev pub items_of : TheItems → Items
items_of x = record { trees = map plain x.exprs.items; start = x.start; nest = x.nest }

abbrev pub guard_of : TheGuard → Guard
guard_of x = record { tests = map (λ (es : Vec Expr Global). map plain es.items) x.tests.items; start = x.start; nest = x.nest }

abbrev pub clauses_of : TheClauses → Clauses
clauses_of x = record { clauses = map plain_clause x.clauses.items; first = x.first; nest = x.nest }

abbrev pub caught_of : TheCaught → Caught
caught_of x = record { place = x.place; class = x.class; pattern = plain x.pattern.value; trace = x.trace; nest = x.nest }

abbrev pub catches_of : TheCatches → Catches
catches_of x = record { clauses = map catch_part x.clauses.items; nest = x.nest }

abbrev pub open_segment_of : TheOpenSegment → OpenSegment
open_segment_of x = record { part = record { place = x.place; value = plain x.value.value; size = option_map (λ (b : Box Expr Global). plain b.value) x.size; types = x.types.items }; nest = x.nest }

abbrev pub segments_of : TheSegments → Segments
segments_of x = record { segments = map segment_part x.segments.items; nest = x.nest }

abbrev pub qualifiers_of : TheQualifiers → Qualifiers
qualifiers_of x = record { qualifiers = map qualifier_part x.qualifiers.items; levels = x.levels; nest = x.nest }

abbrev pub steps_of : TheSteps → Steps
steps_of x = record { steps = map step_part x.steps.items; levels = x.levels; nest = x.nest }

abbrev pub fields_of : TheFields → Fields
fields_of x = record { fields = map field_part x.fields.items; nest = x.nest }

abbrev pub value : TheValue → Value
value (value_is.At p) = at p
value (value_is.Operator o p) = operator o p
value (value_is.Leaf l p) = leaf (leaf_of l) p
value (value_is.Operand x) = operand (operand_of x)
value (value_is.Items x) = items (items_of x)
value (value_is.Guard x) = guard (guard_of x)
value (value_is.Clauses x) = clauses (clauses_of x)
value (value_is.Mark m) = mark m
value (value_is.Caught x) = caught (caught_of x)
value (value_is.Catches x) = catches (catches_of x)
value (value_is.OpenSegment x) = open_segment (open_segment_of x)
value (value_is.Segments x) = segments (segments_of x)
value (value_is.Qualifiers x) = qualifiers (qualifiers_of x)
value (value_is.Steps x) = steps (steps_of x)
value (value_is.Fields x) = fields (fields_of x)
value (value_is.Definitions ds) = definitions (map plain_field_def ds.items)
value (value_is.References rs) = references rs.items
value (value_is.Form f) = form (plain_form f)

abbrev pub stack : List TheValue → List Value
stack vs = reverse (map value vs)

abbrev pub shown : TheRead → Read
shown r = record { values = stack r.values.items; faults = r.faults.items; trace = r.trace; deep = r.deep }

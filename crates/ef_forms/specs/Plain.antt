-- The tree that a value of the program stands for.
use Rattle.std.specs.Prelude.{List, [], ◌∷◌, map, Vec, Option, Some, None, Box}
use Rattle.std.specs.Option.{option_map}
use Rattle.std.specs.declared.alloc.Global.{Global}
use Rattle.ef_base.specs.declared.fault.Place.{Place}
use Rattle.ef_forms.specs.declared.expr.TypeWord.{TypeWord}
use Rattle.ef_forms.specs.declared.expr.Expr.{Expr}
use Rattle.ef_forms.specs.declared.expr.Node.TheOpen as layer
use Rattle.ef_forms.specs.declared.expr.Node.TheOpen.{Node-F, Qualifier-F, CatchClause-F, Clause-F, Expr-F, FieldSet-F, MaybeStep-F, Segment-F}
use Rattle.ef_forms.specs.declared.expr.Node.TheFolds.{fold-Expr, fold-Node, fold-Qualifier, fold-CatchClause, fold-FieldSet, fold-MaybeStep, fold-Segment}
use Rattle.ef_forms.specs.declared.expr.Node.{Node}
use Rattle.ef_forms.specs.declared.expr.CatchClause.{CatchClause}
use Rattle.ef_forms.specs.declared.expr.Clause.{Clause, out-Clause}
use Rattle.ef_forms.specs.declared.expr.FieldSet.{FieldSet}
use Rattle.ef_forms.specs.declared.expr.MaybeStep.{MaybeStep}
use Rattle.ef_forms.specs.declared.expr.Qualifier.{Qualifier}
use Rattle.ef_forms.specs.declared.expr.Segment.{Segment}
use Rattle.ef_forms.specs.declared.form.Function.{Function}
use Rattle.ef_forms.specs.declared.form.Form.{Form}
use Rattle.ef_forms.specs.declared.form.Form.TheVariants as form
use Rattle.ef_forms.specs.declared.form.PlacedForm.{PlacedForm}
use Rattle.ef_forms.specs.declared.form.Module.{Module}
use Rattle.ef_forms.specs.declared.record.FieldDef.{FieldDef}
use Rattle.ef_forms.specs.declared.record.RecordDef.{RecordDef}
use Rattle.ef_forms.specs.Tree as t
use Rattle.ef_forms.specs.Tree.{Tree, Shape, Trees, Guards, Clauses, MaybeClauses, MaybeTrees, Catches, Segments, Fields, Steps, Qualifiers, FieldTree, RecordTree, FunctionTree, FormTree, PlacedTree, ModuleTree}

-- one of each, before those that follow
abbrev pub Before : Type 0 → Type 0
Before A = A → A

abbrev pub all_before : {A : Type 0} → A → List (Before A) → A
all_before none [] = none
all_before none (f ∷ fs) = f (all_before none fs)

abbrev pub trees : List Tree → Trees
trees [] = t.end
trees (e ∷ es) = t.more e (trees es)

-- one clause
pub record ClauseTree : Type 0 where
  pub place : Place
  pub patterns : List Tree
  pub guard : List (List Tree)
  pub body : List Tree

abbrev pub guards : List (List Tree) → Guards
guards [] = t.no_guard
guards (es ∷ gs) = t.or_guard (trees es) (guards gs)

abbrev pub clauses : List ClauseTree → Clauses
clauses [] = t.no_clauses
clauses (c ∷ cs) = t.clause c.place (trees c.patterns) (guards c.guard) (trees c.body) (clauses cs)

abbrev pub list_of : Trees → Option (Box Tree Global) → Shape
list_of es None = t.list es
list_of es (Some e) = t.list_to es e.value

abbrev pub timed : Clauses → Option (Box (Tree × Vec Tree Global) Global) → Shape
timed cs None = t.receive_of cs
timed cs (Some b) = t.receive_after cs b.value.0 (trees b.value.1.items)

abbrev pub maybe_clauses : Option (Vec ClauseTree Global) → MaybeClauses
maybe_clauses None = t.left_out
maybe_clauses (Some cs) = t.these (clauses cs.items)

abbrev pub maybe_trees : Option (Vec Tree Global) → MaybeTrees
maybe_trees None = t.absent
maybe_trees (Some es) = t.present (trees es.items)

-- one layer, with the trees of the parts in their places
abbrev pub shape_layer : Node-F Shape (Before Qualifiers) (Before Catches) ClauseTree Tree (Before Fields) (Before Steps) (Before Segments) → Shape
shape_layer (layer.Int n) = t.int n
shape_layer (layer.Char c) = t.character c
shape_layer (layer.Str cs) = t.string cs
shape_layer (layer.Atom n) = t.atom n
shape_layer (layer.Var n) = t.var n
shape_layer layer.Any = t.any
shape_layer (layer.List es e) = list_of (trees es.items) e
shape_layer (layer.Tuple es) = t.tuple (trees es.items)
shape_layer (layer.Bin ss) = t.binary (all_before t.no_segments ss.items)
shape_layer (layer.Unary o e) = t.unary o e.value
shape_layer (layer.Binary o l r) = t.operation o l.value r.value
shape_layer (layer.AndAlso l r) = t.and_also l.value r.value
shape_layer (layer.OrElse l r) = t.or_else l.value r.value
shape_layer (layer.Match p e) = t.matching p.value e.value
shape_layer (layer.Catch e) = t.catching e.value
shape_layer (layer.Call f es) = t.call f.value (trees es.items)
shape_layer (layer.Remote m f es) = t.remote m.value f.value (trees es.items)
shape_layer (layer.RecordNew n fs) = t.record_new n (all_before t.no_fields fs.items)
shape_layer (layer.RecordUpdate e n fs) = t.record_update e.value n (all_before t.no_fields fs.items)
shape_layer (layer.RecordField e n f) = t.record_field e.value n f
shape_layer (layer.RecordIndex n f) = t.record_index n f
shape_layer (layer.Block es) = t.block (trees es.items)
shape_layer (layer.If cs) = t.if_of (clauses cs.items)
shape_layer (layer.Case e cs) = t.case_of e.value (clauses cs.items)
shape_layer (layer.Receive cs after) = timed (clauses cs.items) after
shape_layer (layer.Try es of ks after) = t.try_of (trees es.items) (maybe_clauses of) (all_before t.no_catches ks.items) (maybe_trees after)
shape_layer (layer.Maybe ss others) = t.maybe (all_before t.no_steps ss.items) (maybe_clauses others)
shape_layer (layer.ListComp e qs) = t.list_comp e.value (all_before t.no_qualifiers qs.items)
shape_layer (layer.BinComp e qs) = t.bin_comp e.value (all_before t.no_qualifiers qs.items)
shape_layer (layer.FunLocal n a) = t.fun_local n a
shape_layer (layer.FunRemote m f a) = t.fun_remote m.value f.value a.value
shape_layer (layer.Fun cs) = t.fun_of (clauses cs.items)
shape_layer (layer.NamedFun n cs) = t.named_fun n (clauses cs.items)

abbrev pub qualifier_layer : Qualifier-F Shape (Before Qualifiers) (Before Catches) ClauseTree Tree (Before Fields) (Before Steps) (Before Segments) → Before Qualifiers
qualifier_layer (layer.ListFrom p e b) = λ qs. t.list_from p e b qs
qualifier_layer (layer.BitsFrom p e b) = λ qs. t.bits_from p e b qs
qualifier_layer (layer.Filter e) = λ qs. t.filter e qs

abbrev pub catch_layer : CatchClause-F Shape (Before Qualifiers) (Before Catches) ClauseTree Tree (Before Fields) (Before Steps) (Before Segments) → Before Catches
catch_layer c = λ cs. t.catches c.place c.class c.pattern c.trace (guards (map (λ (es : Vec Tree Global). es.items) c.guard.items)) (trees c.body.items) cs

abbrev pub clause_layer : Clause-F Shape (Before Qualifiers) (Before Catches) ClauseTree Tree (Before Fields) (Before Steps) (Before Segments) → ClauseTree
clause_layer c = record { place = c.place; patterns = c.patterns.items; guard = map (λ es. es.items) c.guard.items; body = c.body.items }

abbrev pub tree_layer : Expr-F Shape (Before Qualifiers) (Before Catches) ClauseTree Tree (Before Fields) (Before Steps) (Before Segments) → Tree
tree_layer e = t.tree e.place e.node

abbrev pub field_layer : FieldSet-F Shape (Before Qualifiers) (Before Catches) ClauseTree Tree (Before Fields) (Before Steps) (Before Segments) → Before Fields
field_layer f = λ fs. t.field f.place f.field f.value fs

abbrev pub step_of : Option Tree → Tree → Before Steps
step_of None e = λ ss. t.step e ss
step_of (Some p) e = λ ss. t.step_to p e ss

abbrev pub step_layer : MaybeStep-F Shape (Before Qualifiers) (Before Catches) ClauseTree Tree (Before Fields) (Before Steps) (Before Segments) → Before Steps
step_layer s = step_of s.pattern s.value

abbrev pub segment_of : Place → Tree → Option Tree → List TypeWord → Before Segments
segment_of p e None ws = λ ss. t.segment p e ws ss
segment_of p e (Some n) ws = λ ss. t.sized p e n ws ss

abbrev pub segment_layer : Segment-F Shape (Before Qualifiers) (Before Catches) ClauseTree Tree (Before Fields) (Before Steps) (Before Segments) → Before Segments
segment_layer s = segment_of s.place s.value s.size s.types.items

abbrev pub plain : Expr → Tree
plain = fold-Expr Shape (Before Qualifiers) (Before Catches) ClauseTree Tree (Before Fields) (Before Steps) (Before Segments) shape_layer qualifier_layer catch_layer clause_layer tree_layer field_layer step_layer segment_layer

abbrev pub plain_node : Node → Shape
plain_node = fold-Node Shape (Before Qualifiers) (Before Catches) ClauseTree Tree (Before Fields) (Before Steps) (Before Segments) shape_layer qualifier_layer catch_layer clause_layer tree_layer field_layer step_layer segment_layer

abbrev pub plain_catch : CatchClause → Before Catches
plain_catch = fold-CatchClause Shape (Before Qualifiers) (Before Catches) ClauseTree Tree (Before Fields) (Before Steps) (Before Segments) shape_layer qualifier_layer catch_layer clause_layer tree_layer field_layer step_layer segment_layer

abbrev pub plain_segment : Segment → Before Segments
plain_segment = fold-Segment Shape (Before Qualifiers) (Before Catches) ClauseTree Tree (Before Fields) (Before Steps) (Before Segments) shape_layer qualifier_layer catch_layer clause_layer tree_layer field_layer step_layer segment_layer

abbrev pub plain_field : FieldSet → Before Fields
plain_field = fold-FieldSet Shape (Before Qualifiers) (Before Catches) ClauseTree Tree (Before Fields) (Before Steps) (Before Segments) shape_layer qualifier_layer catch_layer clause_layer tree_layer field_layer step_layer segment_layer

abbrev pub plain_step : MaybeStep → Before Steps
plain_step = fold-MaybeStep Shape (Before Qualifiers) (Before Catches) ClauseTree Tree (Before Fields) (Before Steps) (Before Segments) shape_layer qualifier_layer catch_layer clause_layer tree_layer field_layer step_layer segment_layer

abbrev pub plain_qualifier : Qualifier → Before Qualifiers
plain_qualifier = fold-Qualifier Shape (Before Qualifiers) (Before Catches) ClauseTree Tree (Before Fields) (Before Steps) (Before Segments) shape_layer qualifier_layer catch_layer clause_layer tree_layer field_layer step_layer segment_layer

abbrev pub plain_all : List Expr → Trees
plain_all es = trees (map plain es)

abbrev pub plain_guard : List (Vec Expr Global) → Guards
plain_guard gs = guards (map (λ (es : Vec Expr Global). map plain es.items) gs)

abbrev pub plain_clause : Clause → ClauseTree
plain_clause c = record {
  place = (out-Clause c).place;
  patterns = map plain (out-Clause c).patterns.items;
  guard = map (λ (es : Vec Expr Global). map plain es.items) (out-Clause c).guard.items;
  body = map plain (out-Clause c).body.items;
}

abbrev pub plain_clauses : List Clause → Clauses
plain_clauses cs = clauses (map plain_clause cs)

abbrev pub plain_catches : List CatchClause → Catches
plain_catches cs = all_before t.no_catches (map plain_catch cs)

abbrev pub plain_segments : List Segment → Segments
plain_segments ss = all_before t.no_segments (map plain_segment ss)

abbrev pub plain_fields : List FieldSet → Fields
plain_fields fs = all_before t.no_fields (map plain_field fs)

abbrev pub plain_steps : List MaybeStep → Steps
plain_steps ss = all_before t.no_steps (map plain_step ss)

abbrev pub plain_qualifiers : List Qualifier → Qualifiers
plain_qualifiers qs = all_before t.no_qualifiers (map plain_qualifier qs)

abbrev pub plain_maybe_clauses : Option (Vec Clause Global) → MaybeClauses
plain_maybe_clauses None = t.left_out
plain_maybe_clauses (Some cs) = t.these (plain_clauses cs.items)

abbrev pub plain_maybe_body : Option (Vec Expr Global) → MaybeTrees
plain_maybe_body None = t.absent
plain_maybe_body (Some es) = t.present (plain_all es.items)

abbrev pub plain_function : Function → FunctionTree
plain_function f = record { place = f.place; name = f.name; arity = f.arity; clauses = plain_clauses f.clauses.items }

abbrev pub plain_field_def : FieldDef → FieldTree
plain_field_def f = record { place = f.place; name = f.name; default = option_map plain f.default }

abbrev pub plain_record : RecordDef → RecordTree
plain_record r = record { place = r.place; name = r.name; fields = map plain_field_def r.fields.items }

abbrev pub plain_form : Form → FormTree
plain_form (form.ModuleName n) = t.module_name n
plain_form (form.Export refs) = t.export refs.items
plain_form (form.Import m refs) = t.import m refs.items
plain_form (form.RecordOf r) = t.record_of (plain_record r)
plain_form (form.Attribute n e) = t.attribute n (plain e)
plain_form form.Dropped = t.dropped
plain_form form.ExportAll = t.export_all
plain_form (form.FunctionOf f) = t.function (plain_function f)

abbrev pub plain_placed : PlacedForm → PlacedTree
plain_placed f = record { place = f.place; form = plain_form f.form }

abbrev pub plain_module : Module → ModuleTree
plain_module m = record { name = m.name; forms = map plain_placed m.forms.items }

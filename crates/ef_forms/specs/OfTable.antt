-- Trees whose names are all of one table.
use Rattle.std.specs.Prelude.{List, [], ◌∷◌, IfSome}
use Rattle.ef_base.specs.Texts.{Texts, HasName}
use Rattle.ef_forms.specs.declared.expr.ClassPart.{ClassPart}
use Rattle.ef_forms.specs.declared.expr.ClassPart.TheVariants as class
use Rattle.ef_forms.specs.declared.expr.TypeWord.{TypeWord}
use Rattle.ef_forms.specs.declared.form.FunctionRef.{FunctionRef}
use Rattle.ef_forms.specs.Tree.{Tree, Shape, Trees, Guards, Clauses, MaybeClauses, MaybeTrees, Catches, Segments, Fields, Steps, Qualifiers, FieldTree, RecordTree, FunctionTree, FormTree, PlacedTree, ModuleTree, tree, int, character, string, atom, var, any, list, list_to, tuple, binary, unary, operation, and_also, or_else, matching, catching, call, remote, record_new, record_update, record_field, record_index, block, if_of, case_of, receive_of, receive_after, try_of, maybe, list_comp, bin_comp, fun_local, fun_remote, fun_of, named_fun, end, more, no_guard, or_guard, no_clauses, clause, left_out, these, absent, present, no_catches, catches, no_segments, segment, sized, no_fields, field, no_steps, step, step_to, no_qualifiers, list_from, bits_from, filter, module_name, export, import, record_of, attribute, dropped, export_all, function}

module _ (texts : Texts) where
  abbrev pub ClassOf : ClassPart → Type 0
  ClassOf class.LeftOut = Unit {0}
  ClassOf (class.Atom n) = HasName texts n
  ClassOf (class.Var n) = HasName texts n
  ClassOf class.Any = Unit {0}

  abbrev pub WordsOf : List TypeWord → Type 0
  WordsOf [] = Unit {0}
  WordsOf (w ∷ ws) = HasName texts w.name × WordsOf ws

  abbrev mutual
    pub TreeOf : Tree → Type 0
    TreeOf (tree p e) = ShapeOf e

    pub ShapeOf : Shape → Type 0
    ShapeOf (int i) = Unit {0}
    ShapeOf (character c) = Unit {0}
    ShapeOf (string cs) = Unit {0}
    ShapeOf (atom n) = HasName texts n
    ShapeOf (var n) = HasName texts n
    ShapeOf any = Unit {0}
    ShapeOf (list es) = TreesOf es
    ShapeOf (list_to es e) = TreesOf es × TreeOf e
    ShapeOf (tuple es) = TreesOf es
    ShapeOf (binary ss) = SegmentsOf ss
    ShapeOf (unary o e) = TreeOf e
    ShapeOf (operation o l r) = TreeOf l × TreeOf r
    ShapeOf (and_also l r) = TreeOf l × TreeOf r
    ShapeOf (or_else l r) = TreeOf l × TreeOf r
    ShapeOf (matching p e) = TreeOf p × TreeOf e
    ShapeOf (catching e) = TreeOf e
    ShapeOf (call f es) = TreeOf f × TreesOf es
    ShapeOf (remote m f es) = TreeOf m × TreeOf f × TreesOf es
    ShapeOf (record_new n fs) = HasName texts n × FieldsOf fs
    ShapeOf (record_update e n fs) = TreeOf e × HasName texts n × FieldsOf fs
    ShapeOf (record_field e n f) = TreeOf e × HasName texts n × HasName texts f
    ShapeOf (record_index n f) = HasName texts n × HasName texts f
    ShapeOf (block es) = TreesOf es
    ShapeOf (if_of cs) = ClausesOf cs
    ShapeOf (case_of e cs) = TreeOf e × ClausesOf cs
    ShapeOf (receive_of cs) = ClausesOf cs
    ShapeOf (receive_after cs e es) = ClausesOf cs × TreeOf e × TreesOf es
    ShapeOf (try_of es cs ks after) = TreesOf es × MaybeClausesOf cs × CatchesOf ks × MaybeTreesOf after
    ShapeOf (maybe ss cs) = StepsOf ss × MaybeClausesOf cs
    ShapeOf (list_comp e qs) = TreeOf e × QualifiersOf qs
    ShapeOf (bin_comp e qs) = TreeOf e × QualifiersOf qs
    ShapeOf (fun_local n arity) = HasName texts n
    ShapeOf (fun_remote m f arity) = TreeOf m × TreeOf f × TreeOf arity
    ShapeOf (fun_of cs) = ClausesOf cs
    ShapeOf (named_fun n cs) = HasName texts n × ClausesOf cs

    pub TreesOf : Trees → Type 0
    TreesOf end = Unit {0}
    TreesOf (more e es) = TreeOf e × TreesOf es

    pub GuardsOf : Guards → Type 0
    GuardsOf no_guard = Unit {0}
    GuardsOf (or_guard es gs) = TreesOf es × GuardsOf gs

    pub ClausesOf : Clauses → Type 0
    ClausesOf no_clauses = Unit {0}
    ClausesOf (clause p ps g body cs) = TreesOf ps × GuardsOf g × TreesOf body × ClausesOf cs

    pub MaybeClausesOf : MaybeClauses → Type 0
    MaybeClausesOf left_out = Unit {0}
    MaybeClausesOf (these cs) = ClausesOf cs

    pub MaybeTreesOf : MaybeTrees → Type 0
    MaybeTreesOf absent = Unit {0}
    MaybeTreesOf (present es) = TreesOf es

    pub CatchesOf : Catches → Type 0
    CatchesOf no_catches = Unit {0}
    CatchesOf (catches p class e trace g body ks) = ClassOf class × TreeOf e × IfSome trace (HasName texts) × GuardsOf g × TreesOf body × CatchesOf ks

    pub SegmentsOf : Segments → Type 0
    SegmentsOf no_segments = Unit {0}
    SegmentsOf (segment p e ws ss) = TreeOf e × WordsOf ws × SegmentsOf ss
    SegmentsOf (sized p e n ws ss) = TreeOf e × TreeOf n × WordsOf ws × SegmentsOf ss

    pub FieldsOf : Fields → Type 0
    FieldsOf no_fields = Unit {0}
    FieldsOf (field p n e fs) = IfSome n (HasName texts) × TreeOf e × FieldsOf fs

    pub StepsOf : Steps → Type 0
    StepsOf no_steps = Unit {0}
    StepsOf (step e ss) = TreeOf e × StepsOf ss
    StepsOf (step_to p e ss) = TreeOf p × TreeOf e × StepsOf ss

    pub QualifiersOf : Qualifiers → Type 0
    QualifiersOf no_qualifiers = Unit {0}
    QualifiersOf (list_from p e strict qs) = TreeOf p × TreeOf e × QualifiersOf qs
    QualifiersOf (bits_from p e strict qs) = TreeOf p × TreeOf e × QualifiersOf qs
    QualifiersOf (filter e qs) = TreeOf e × QualifiersOf qs

  abbrev pub FunctionOf : FunctionTree → Type 0
  FunctionOf f = HasName texts f.name × ClausesOf f.clauses

  abbrev pub ReferencesOf : List FunctionRef → Type 0
  ReferencesOf [] = Unit {0}
  ReferencesOf (r ∷ rs) = HasName texts r.name × ReferencesOf rs

  abbrev pub FieldTreesOf : List FieldTree → Type 0
  FieldTreesOf [] = Unit {0}
  FieldTreesOf (f ∷ fs) = HasName texts f.name × IfSome f.default TreeOf × FieldTreesOf fs

  abbrev pub RecordOf : RecordTree → Type 0
  RecordOf r = HasName texts r.name × FieldTreesOf r.fields

  abbrev pub FormOf : FormTree → Type 0
  FormOf (module_name n) = HasName texts n
  FormOf (export rs) = ReferencesOf rs
  FormOf (import m rs) = HasName texts m × ReferencesOf rs
  FormOf (record_of r) = RecordOf r
  FormOf (attribute n e) = HasName texts n × TreeOf e
  FormOf dropped = Unit {0}
  FormOf export_all = Unit {0}
  FormOf (function f) = FunctionOf f

  abbrev pub FormsOf : List PlacedTree → Type 0
  FormsOf [] = Unit {0}
  FormsOf (f ∷ fs) = FormOf f.form × FormsOf fs

  abbrev pub ModuleOf : ModuleTree → Type 0
  ModuleOf m = HasName texts m.name × FormsOf m.forms

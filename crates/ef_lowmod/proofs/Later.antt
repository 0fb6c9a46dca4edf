-- What holds in a later table.
use Rattle.std.proofs.Common.{List, [], ◌∷◌, Option, Some, None}
use Rattle.std.specs.Prelude.{IfSome}
use Rattle.ef_base.specs.declared.name.Name.{Name}
use Rattle.ef_base.specs.Laws.{has_later}
use Rattle.ef_base.specs.Texts.{Extends, HasName, Texts}
use Rattle.ef_core.proofs.Later.{def_later}
use Rattle.ef_core.specs.declared.literal.FName.{FName}
use Rattle.ef_core.specs.OfTable.{DefOf, Each}
use Rattle.ef_core.specs.Tree.{DefTree}
use Rattle.ef_forms.specs.declared.expr.ClassPart.{ClassPart}
use Rattle.ef_forms.specs.declared.expr.ClassPart.TheVariants as class
use Rattle.ef_forms.specs.declared.expr.TypeWord.{TypeWord}
use Rattle.ef_forms.specs.OfTable.{CatchesOf, ClassOf, ClausesOf, FieldsOf, GuardsOf, MaybeClausesOf, MaybeTreesOf, QualifiersOf, SegmentsOf, ShapeOf, StepsOf, TreeOf, TreesOf, WordsOf}
use Rattle.ef_forms.specs.Tree as s
use Rattle.ef_forms.specs.Tree.{Catches, Clauses, Fields, FunctionTree, Guards, MaybeClauses, MaybeTrees, Qualifiers, Segments, Shape, Steps, Tree, Trees}
use Rattle.ef_lowmod.specs.Function.{AreLowered, IsLoweredFunction}
use Rattle.ef_lowmod.proofs.Lowered.{lowered_later}

module _ (now all : Texts) (later : Extends now all) where
  function_later : (fs : List FName) (f : FunctionTree) (d : DefTree) → IsLoweredFunction now fs f d → IsLoweredFunction all fs f d
  function_later fs f d is = record {
    name = is.name;
    parameters = is.parameters;
    matches = is.matches;
    body = lowered_later now all later d.body is.body;
    in_scope = is.in_scope;
    shallow = is.shallow;
    of_table = def_later now all later d is.of_table;
  }

  pub functions_later : (fs : List FName) (gs : List FunctionTree) (ds : List DefTree) → AreLowered now fs gs ds → AreLowered all fs gs ds
  functions_later fs [] [] is = tt
  functions_later fs [] (d ∷ ds) is = absurd is
  functions_later fs (g ∷ gs) [] is = absurd is
  functions_later fs (g ∷ gs) (d ∷ ds) is = (function_later fs g d is.0, functions_later fs gs ds is.1)

pub each_def : (all : Texts) (fs : List FName) (gs : List FunctionTree) (ds : List DefTree) → AreLowered all fs gs ds → Each (DefOf all) ds
each_def all fs [] [] is = tt
each_def all fs [] (d ∷ ds) is = absurd is
each_def all fs (g ∷ gs) [] is = absurd is
each_def all fs (g ∷ gs) (d ∷ ds) is = (is.0.of_table, each_def all fs gs ds is.1)

-- ---- source trees

module _ (now all : Texts) (later : Extends now all) where
  some_later : (o : Option Name) → IfSome o (HasName now) → IfSome o (HasName all)
  some_later None is = tt
  some_later (Some n) is = has_later now all n is later

  class_later : (c : ClassPart) → ClassOf now c → ClassOf all c
  class_later class.LeftOut is = tt
  class_later (class.Atom n) is = has_later now all n is later
  class_later (class.Var n) is = has_later now all n is later
  class_later class.Any is = tt

  words_later : (ws : List TypeWord) → WordsOf now ws → WordsOf all ws
  words_later [] is = tt
  words_later (w ∷ ws) is = (has_later now all w.name is.0 later, words_later ws is.1)

  mutual
    tree_later : (e : Tree) → TreeOf now e → TreeOf all e
    tree_later (s.tree p e) is = shape_later e is

    shape_later : (e : Shape) → ShapeOf now e → ShapeOf all e
    shape_later (s.int i) is = tt
    shape_later (s.character c) is = tt
    shape_later (s.string cs) is = tt
    shape_later (s.atom n) is = has_later now all n is later
    shape_later (s.var n) is = has_later now all n is later
    shape_later s.any is = tt
    shape_later (s.list es) is = trees_later es is
    shape_later (s.list_to es e) is = (trees_later es is.0, tree_later e is.1)
    shape_later (s.tuple es) is = trees_later es is
    shape_later (s.binary ss) is = segments_later ss is
    shape_later (s.unary o e) is = tree_later e is
    shape_later (s.operation o l r) is = (tree_later l is.0, tree_later r is.1)
    shape_later (s.and_also l r) is = (tree_later l is.0, tree_later r is.1)
    shape_later (s.or_else l r) is = (tree_later l is.0, tree_later r is.1)
    shape_later (s.matching p e) is = (tree_later p is.0, tree_later e is.1)
    shape_later (s.catching e) is = tree_later e is
    shape_later (s.call f es) is = (tree_later f is.0, trees_later es is.1)
    shape_later (s.remote m f es) is = (tree_later m is.0, tree_later f is.1, trees_later es is.2)
    shape_later (s.record_new n fs) is = (has_later now all n is.0 later, fields_later fs is.1)
    shape_later (s.record_update e n fs) is = (tree_later e is.0, has_later now all n is.1 later, fields_later fs is.2)
    shape_later (s.record_field e n f) is = (tree_later e is.0, has_later now all n is.1 later, has_later now all f is.2 later)
    shape_later (s.record_index n f) is = (has_later now all n is.0 later, has_later now all f is.1 later)
    shape_later (s.block es) is = trees_later es is
    shape_later (s.if_of cs) is = clauses_later cs is
    shape_later (s.case_of e cs) is = (tree_later e is.0, clauses_later cs is.1)
    shape_later (s.receive_of cs) is = clauses_later cs is
    shape_later (s.receive_after cs e es) is = (clauses_later cs is.0, tree_later e is.1, trees_later es is.2)
    shape_later (s.try_of es cs ks after) is = (trees_later es is.0, maybe_clauses_later cs is.1, catches_later ks is.2, maybe_trees_later after is.3)
    shape_later (s.maybe ss cs) is = (steps_later ss is.0, maybe_clauses_later cs is.1)
    shape_later (s.list_comp e qs) is = (tree_later e is.0, qualifiers_later qs is.1)
    shape_later (s.bin_comp e qs) is = (tree_later e is.0, qualifiers_later qs is.1)
    shape_later (s.fun_local n arity) is = has_later now all n is later
    shape_later (s.fun_remote m f arity) is = (tree_later m is.0, tree_later f is.1, tree_later arity is.2)
    shape_later (s.fun_of cs) is = clauses_later cs is
    shape_later (s.named_fun n cs) is = (has_later now all n is.0 later, clauses_later cs is.1)

    trees_later : (es : Trees) → TreesOf now es → TreesOf all es
    trees_later s.end is = tt
    trees_later (s.more e es) is = (tree_later e is.0, trees_later es is.1)

    guards_later : (gs : Guards) → GuardsOf now gs → GuardsOf all gs
    guards_later s.no_guard is = tt
    guards_later (s.or_guard es gs) is = (trees_later es is.0, guards_later gs is.1)

    pub clauses_later : (cs : Clauses) → ClausesOf now cs → ClausesOf all cs
    clauses_later s.no_clauses is = tt
    clauses_later (s.clause p ps g body cs) is = (trees_later ps is.0, guards_later g is.1, trees_later body is.2, clauses_later cs is.3)

    maybe_clauses_later : (cs : MaybeClauses) → MaybeClausesOf now cs → MaybeClausesOf all cs
    maybe_clauses_later s.left_out is = tt
    maybe_clauses_later (s.these cs) is = clauses_later cs is

    maybe_trees_later : (es : MaybeTrees) → MaybeTreesOf now es → MaybeTreesOf all es
    maybe_trees_later s.absent is = tt
    maybe_trees_later (s.present es) is = trees_later es is

    catches_later : (ks : Catches) → CatchesOf now ks → CatchesOf all ks
    catches_later s.no_catches is = tt
    catches_later (s.catches p c e t g body ks) is = (class_later c is.0, tree_later e is.1, some_later t is.2, guards_later g is.3, trees_later body is.4, catches_later ks is.5)

    segments_later : (ss : Segments) → SegmentsOf now ss → SegmentsOf all ss
    segments_later s.no_segments is = tt
    segments_later (s.segment p e ws ss) is = (tree_later e is.0, words_later ws is.1, segments_later ss is.2)
    segments_later (s.sized p e n ws ss) is = (tree_later e is.0, tree_later n is.1, words_later ws is.2, segments_later ss is.3)

    fields_later : (fs : Fields) → FieldsOf now fs → FieldsOf all fs
    fields_later s.no_fields is = tt
    fields_later (s.field p n e fs) is = (some_later n is.0, tree_later e is.1, fields_later fs is.2)

    steps_later : (ss : Steps) → StepsOf now ss → StepsOf all ss
    steps_later s.no_steps is = tt
    steps_later (s.step e ss) is = (tree_later e is.0, steps_later ss is.1)
    steps_later (s.step_to p e ss) is = (tree_later p is.0, tree_later e is.1, steps_later ss is.2)

    qualifiers_later : (qs : Qualifiers) → QualifiersOf now qs → QualifiersOf all qs
    qualifiers_later s.no_qualifiers is = tt
    qualifiers_later (s.list_from p e b qs) is = (tree_later p is.0, tree_later e is.1, qualifiers_later qs is.2)
    qualifiers_later (s.bits_from p e b qs) is = (tree_later p is.0, tree_later e is.1, qualifiers_later qs is.2)
    qualifiers_later (s.filter e qs) is = (tree_later e is.0, qualifiers_later qs is.1)

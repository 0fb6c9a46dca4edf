-- The tree that a value of the program stands for.
use Rattle.std.specs.Prelude.{ℤ, List, [], ◌∷◌, map, Option, Some, None, Box}
use Rattle.std.specs.declared.alloc.Global.{Global}
use Rattle.ef_base.specs.declared.name.Name.{Name}
use Rattle.ef_core.specs.declared.literal.CoreVar.{CoreVar}
use Rattle.ef_core.specs.declared.literal.CoreLit.{CoreLit, fold-CoreLit}
use Rattle.ef_core.specs.declared.literal.CoreLit.TheOpen as lit_layer
use Rattle.ef_core.specs.declared.literal.CoreLit.TheOpen.{CoreLit-F}
use Rattle.ef_core.specs.declared.tree.CoreExpr.{CoreExpr, fold-CoreExpr}
use Rattle.ef_core.specs.declared.tree.CoreExpr.TheOpen as layer
use Rattle.ef_core.specs.declared.tree.CoreExpr.TheOpen.{CoreExpr-F, CorePat-F, CoreClause-F, CoreDef-F, CorePatSegment-F, CoreSegment-F, LetStep-F}
use Rattle.ef_core.specs.declared.tree.CoreExpr.TheFolds.{fold-CorePat}
use Rattle.ef_core.specs.declared.tree.CorePat.{CorePat}
use Rattle.ef_core.specs.declared.tree.CoreClause.{CoreClause}
use Rattle.ef_core.specs.declared.tree.CoreDef.{CoreDef}
use Rattle.ef_core.specs.declared.tree.CorePatSegment.{CorePatSegment}
use Rattle.ef_core.specs.declared.tree.CoreSegment.{CoreSegment}
use Rattle.ef_core.specs.declared.tree.LetStep.{LetStep}
use Rattle.ef_core.specs.declared.module.CoreAttribute.{CoreAttribute}
use Rattle.ef_core.specs.declared.module.CoreModule.{CoreModule}
use Rattle.ef_core.specs.Tree as t
use Rattle.ef_core.specs.Tree.{LitTree, LitTrees, CoreTree, CoreTrees, CoreSegments, CoreSteps, CoreDefs, CoreClauses, PatTree, PatTrees, PatSegments, AttributeTree, DefTree, CoreModuleTree}

-- ---- literals

abbrev pub lits : List LitTree → LitTrees
lits [] = t.no_lits
lits (l ∷ ls) = t.more_lits l (lits ls)

abbrev pub lit_list_of : LitTrees → Option (Box LitTree Global) → LitTree
lit_list_of ls None = t.lit_list ls
lit_list_of ls (Some l) = t.lit_list_to ls l.value

abbrev pub literal_layer : CoreLit-F LitTree → LitTree
literal_layer (lit_layer.Int n) = t.int n
literal_layer (lit_layer.Atom n) = t.atom n
literal_layer (lit_layer.List ls l) = lit_list_of (lits ls.items) l
literal_layer (lit_layer.Tuple ls) = t.lit_tuple (lits ls.items)

abbrev pub plain_lit : CoreLit → LitTree
plain_lit = fold-CoreLit LitTree literal_layer

abbrev pub plain_lits : List CoreLit → LitTrees
plain_lits ls = lits (map plain_lit ls)

-- ---- the parts of lists

-- one let of a run
pub record StepTree : Type 0 where
  pub vars : List CoreVar
  pub value : CoreTree

pub record ClauseTree : Type 0 where
  pub pats : PatTrees
  pub guard : CoreTree
  pub body : CoreTree

pub record SegmentTree : Type 0 where
  pub value : CoreTree
  pub size : CoreTree
  pub unit : ℤ
  pub kind : Name
  pub flags : LitTree

pub record PatSegmentTree : Type 0 where
  pub value : PatTree
  pub size : CoreTree
  pub unit : ℤ
  pub kind : Name
  pub flags : LitTree

abbrev pub trees : List CoreTree → CoreTrees
trees [] = t.end
trees (e ∷ es) = t.more e (trees es)

abbrev pub pats : List PatTree → PatTrees
pats [] = t.no_pats
pats (p ∷ ps) = t.more_pats p (pats ps)

abbrev pub steps : List StepTree → CoreSteps
steps [] = t.done
steps (s ∷ ss) = t.step s.vars s.value (steps ss)

abbrev pub defs : List DefTree → CoreDefs
defs [] = t.no_defs
defs (d ∷ ds) = t.def d.name d.params d.body (defs ds)

abbrev pub clauses : List ClauseTree → CoreClauses
clauses [] = t.no_clauses
clauses (c ∷ cs) = t.clause c.pats c.guard c.body (clauses cs)

abbrev pub segments : List SegmentTree → CoreSegments
segments [] = t.no_segments
segments (s ∷ ss) = t.segment s.value s.size s.unit s.kind s.flags (segments ss)

abbrev pub pat_segments : List PatSegmentTree → PatSegments
pat_segments [] = t.no_pat_segments
pat_segments (s ∷ ss) = t.pat_segment s.value s.size s.unit s.kind s.flags (pat_segments ss)

abbrev pub list_of : CoreTrees → Option (Box CoreTree Global) → CoreTree
list_of es None = t.list es
list_of es (Some e) = t.list_to es e.value

abbrev pub pat_list_of : PatTrees → Option (Box PatTree Global) → PatTree
pat_list_of ps None = t.pat_list ps
pat_list_of ps (Some p) = t.pat_list_to ps p.value

-- ---- one layer, with the trees of the parts in their places

abbrev pub tree_layer : CoreExpr-F CoreTree PatTree ClauseTree DefTree PatSegmentTree SegmentTree StepTree → CoreTree
tree_layer (layer.CoreExpr::Var v) = t.var v
tree_layer (layer.CoreExpr::Lit l) = t.lit (plain_lit l)
tree_layer (layer.FunName f) = t.fun_name f
tree_layer (layer.Fun vs b) = t.a_fun vs.items b.value
tree_layer (layer.ValueList es) = t.value_list (trees es.items)
tree_layer (layer.CoreExpr::Tuple es) = t.tuple (trees es.items)
tree_layer (layer.CoreExpr::List es e) = list_of (trees es.items) e
tree_layer (layer.CoreExpr::Bin ss) = t.bin (segments ss.items)
tree_layer (layer.Lets ss e) = t.lets (steps ss.items) e.value
tree_layer (layer.Letrec ds e) = t.letrec (defs ds.items) e.value
tree_layer (layer.Case e cs) = t.case_of e.value (clauses cs.items)
tree_layer (layer.Apply f es) = t.apply f.value (trees es.items)
tree_layer (layer.Call m f es) = t.call m.value f.value (trees es.items)
tree_layer (layer.Primop n es) = t.primop n (trees es.items)
tree_layer (layer.Do a b) = t.do_then a.value b.value
tree_layer (layer.Receive cs e b) = t.receive (clauses cs.items) e.value b.value
tree_layer (layer.Try a vs b ws h) = t.try_catch a.value vs.items b.value ws.items h.value

abbrev pub pat_layer : CorePat-F CoreTree PatTree ClauseTree DefTree PatSegmentTree SegmentTree StepTree → PatTree
pat_layer (layer.CorePat::Var v) = t.pat_var v
pat_layer (layer.CorePat::Lit l) = t.pat_lit (plain_lit l)
pat_layer (layer.CorePat::Tuple ps) = t.pat_tuple (pats ps.items)
pat_layer (layer.CorePat::List ps p) = pat_list_of (pats ps.items) p
pat_layer (layer.Alias v p) = t.alias v p.value
pat_layer (layer.CorePat::Bin ss) = t.pat_bin (pat_segments ss.items)

abbrev pub clause_layer : CoreClause-F CoreTree PatTree ClauseTree DefTree PatSegmentTree SegmentTree StepTree → ClauseTree
clause_layer c = record { pats = pats c.pats.items; guard = c.guard; body = c.body }

abbrev pub def_layer : CoreDef-F CoreTree PatTree ClauseTree DefTree PatSegmentTree SegmentTree StepTree → DefTree
def_layer d = record { name = d.name; params = d.params.items; body = d.body }

abbrev pub pat_segment_layer : CorePatSegment-F CoreTree PatTree ClauseTree DefTree PatSegmentTree SegmentTree StepTree → PatSegmentTree
pat_segment_layer s = record { value = s.value; size = s.size; unit = s.unit; kind = s.kind; flags = plain_lit s.flags }

abbrev pub segment_layer : CoreSegment-F CoreTree PatTree ClauseTree DefTree PatSegmentTree SegmentTree StepTree → SegmentTree
segment_layer s = record { value = s.value; size = s.size; unit = s.unit; kind = s.kind; flags = plain_lit s.flags }

abbrev pub step_layer : LetStep-F CoreTree PatTree ClauseTree DefTree PatSegmentTree SegmentTree StepTree → StepTree
step_layer s = record { vars = s.vars.items; value = s.value }

-- ---- whole trees

abbrev pub plain : CoreExpr → CoreTree
plain = fold-CoreExpr CoreTree PatTree ClauseTree DefTree PatSegmentTree SegmentTree StepTree tree_layer pat_layer clause_layer def_layer pat_segment_layer segment_layer step_layer

abbrev pub plain_pat : CorePat → PatTree
plain_pat = fold-CorePat CoreTree PatTree ClauseTree DefTree PatSegmentTree SegmentTree StepTree tree_layer pat_layer clause_layer def_layer pat_segment_layer segment_layer step_layer

abbrev pub plain_all : List CoreExpr → CoreTrees
plain_all es = trees (map plain es)

abbrev pub plain_pats : List CorePat → PatTrees
plain_pats ps = pats (map plain_pat ps)

abbrev pub plain_step : LetStep → StepTree
plain_step s = record { vars = s.vars.items; value = plain s.value }

abbrev pub plain_steps : List LetStep → CoreSteps
plain_steps ss = steps (map plain_step ss)

abbrev pub plain_def : CoreDef → DefTree
plain_def d = record { name = d.name; params = d.params.items; body = plain d.body }

abbrev pub plain_defs : List CoreDef → CoreDefs
plain_defs ds = defs (map plain_def ds)

abbrev pub plain_clause : CoreClause → ClauseTree
plain_clause c = record { pats = plain_pats c.pats.items; guard = plain c.guard; body = plain c.body }

abbrev pub plain_clauses : List CoreClause → CoreClauses
plain_clauses cs = clauses (map plain_clause cs)

abbrev pub plain_segment : CoreSegment → SegmentTree
plain_segment s = record { value = plain s.value; size = plain s.size; unit = s.unit; kind = s.kind; flags = plain_lit s.flags }

abbrev pub plain_segments : List CoreSegment → CoreSegments
plain_segments ss = segments (map plain_segment ss)

abbrev pub plain_pat_segment : CorePatSegment → PatSegmentTree
plain_pat_segment s = record { value = plain_pat s.value; size = plain s.size; unit = s.unit; kind = s.kind; flags = plain_lit s.flags }

abbrev pub plain_pat_segments : List CorePatSegment → PatSegments
plain_pat_segments ss = pat_segments (map plain_pat_segment ss)

-- lists, with or without a tail
abbrev pub plain_lit_list : List CoreLit → Option (Box CoreLit Global) → LitTree
plain_lit_list ls None = t.lit_list (plain_lits ls)
plain_lit_list ls (Some l) = t.lit_list_to (plain_lits ls) (plain_lit l.value)

abbrev pub plain_list : List CoreExpr → Option (Box CoreExpr Global) → CoreTree
plain_list es None = t.list (plain_all es)
plain_list es (Some e) = t.list_to (plain_all es) (plain e.value)

abbrev pub plain_pat_list : List CorePat → Option (Box CorePat Global) → PatTree
plain_pat_list ps None = t.pat_list (plain_pats ps)
plain_pat_list ps (Some p) = t.pat_list_to (plain_pats ps) (plain_pat p.value)

-- ---- modules

abbrev pub plain_attribute : CoreAttribute → AttributeTree
plain_attribute a = record { name = a.name; term = plain_lit a.term }

abbrev pub plain_module : CoreModule → CoreModuleTree
plain_module m = record {
  name = m.name;
  exports = m.exports.items;
  attributes = map plain_attribute m.attributes.items;
  defs = map plain_def m.defs.items;
}

-- The equations of `plain`, one for each variant.
use Rattle.std.specs.Prelude.{◌≡◌, ℤ, List, [], ◌∷◌, map, Option, Some, None, Vec, Box, refl}
use Rattle.std.proofs.Common.{sym, ap, ◌∙◌}
use Rattle.std.specs.declared.alloc.Global.{Global}
use Rattle.ef_base.specs.declared.name.Name.{Name}
use Rattle.ef_core.specs.declared.literal.CoreVar.{CoreVar}
use Rattle.ef_core.specs.declared.literal.FName.{FName}
use Rattle.ef_core.specs.declared.literal.CoreLit.{CoreLit, fold-roll-CoreLit}
use Rattle.ef_core.specs.declared.literal.CoreLit.TheVariants as l
use Rattle.ef_core.specs.declared.literal.CoreLit.TheOpen as lit_layer
use Rattle.ef_core.specs.declared.tree.CoreExpr.{CoreExpr, fold-roll-CoreExpr}
use Rattle.ef_core.specs.declared.tree.CoreExpr.TheVariants as e
use Rattle.ef_core.specs.declared.tree.CorePat.TheVariants as p
use Rattle.ef_core.specs.declared.tree.CoreExpr.TheOpen as layer
use Rattle.ef_core.specs.declared.tree.CoreExpr.TheFolds.{fold-roll-CorePat, fold-CoreClause, fold-CoreDef, fold-CorePatSegment, fold-CoreSegment, fold-LetStep, fold_out-CoreClause, fold_out-CoreDef, fold_out-CorePatSegment, fold_out-CoreSegment, fold_out-LetStep}
use Rattle.ef_core.specs.declared.tree.CorePat.{CorePat}
use Rattle.ef_core.specs.declared.tree.CoreClause.{CoreClause}
use Rattle.ef_core.specs.declared.tree.CoreDef.{CoreDef}
use Rattle.ef_core.specs.declared.tree.CorePatSegment.{CorePatSegment}
use Rattle.ef_core.specs.declared.tree.CoreSegment.{CoreSegment}
use Rattle.ef_core.specs.declared.tree.LetStep.{LetStep}
use Rattle.ef_core.specs.Tree as t
use Rattle.ef_core.specs.Tree.{LitTree, CoreTree, PatTree, DefTree}
use Rattle.ef_core.specs.Plain.{ClauseTree, PatSegmentTree, SegmentTree, StepTree, clause_layer, clauses, def_layer, defs, literal_layer, pat_layer, pat_segment_layer, pat_segments, plain, plain_all, plain_clause, plain_clauses, plain_def, plain_defs, plain_lit, plain_lits, plain_lit_list, plain_list, plain_pat_list, plain_pat, plain_pat_segment, plain_pat_segments, plain_pats, plain_segment, plain_segments, plain_step, plain_steps, segment_layer, segments, step_layer, steps, tree_layer}

-- ---- literals

pub plain_lit_int : (n : ℤ) → plain_lit (l.Int n) ≡ t.int n
plain_lit_int n = ap plain_lit (sym (l.rolls-Int n)) ∙ fold-roll-CoreLit LitTree literal_layer (lit_layer.Int n)

pub plain_lit_atom : (n : Name) → plain_lit (l.Atom n) ≡ t.atom n
plain_lit_atom n = ap plain_lit (sym (l.rolls-Atom n)) ∙ fold-roll-CoreLit LitTree literal_layer (lit_layer.Atom n)

pub plain_lit_items : (ls : Vec CoreLit Global) (tail : Option (Box CoreLit Global)) → plain_lit (l.List ls tail) ≡ plain_lit_list ls.items tail
plain_lit_items ls None = ap plain_lit (sym (l.rolls-List ls None)) ∙ fold-roll-CoreLit LitTree literal_layer (lit_layer.List ls None)
plain_lit_items ls (Some b) = ap plain_lit (sym (l.rolls-List ls (Some b))) ∙ fold-roll-CoreLit LitTree literal_layer (lit_layer.List ls (Some b))

pub plain_lit_tuple : (ls : Vec CoreLit Global) → plain_lit (l.Tuple ls) ≡ t.lit_tuple (plain_lits ls.items)
plain_lit_tuple ls = ap plain_lit (sym (l.rolls-Tuple ls)) ∙ fold-roll-CoreLit LitTree literal_layer (lit_layer.Tuple ls)

map_same : {A B : Type 0} (f g : A → B) → ((x : A) → f x ≡ g x) → (xs : List A) → map f xs ≡ map g xs
map_same f g same [] = refl
map_same f g same (x ∷ xs) = rw (same x, map_same f g same xs) refl

-- ---- the parts of lists

plain_clause_is : (x : CoreClause) → fold-CoreClause CoreTree PatTree ClauseTree DefTree PatSegmentTree SegmentTree StepTree tree_layer pat_layer clause_layer def_layer pat_segment_layer segment_layer step_layer x ≡ plain_clause x
plain_clause_is x = fold_out-CoreClause CoreTree PatTree ClauseTree DefTree PatSegmentTree SegmentTree StepTree tree_layer pat_layer clause_layer def_layer pat_segment_layer segment_layer step_layer x

plain_def_is : (x : CoreDef) → fold-CoreDef CoreTree PatTree ClauseTree DefTree PatSegmentTree SegmentTree StepTree tree_layer pat_layer clause_layer def_layer pat_segment_layer segment_layer step_layer x ≡ plain_def x
plain_def_is x = fold_out-CoreDef CoreTree PatTree ClauseTree DefTree PatSegmentTree SegmentTree StepTree tree_layer pat_layer clause_layer def_layer pat_segment_layer segment_layer step_layer x

plain_pat_segment_is : (x : CorePatSegment) → fold-CorePatSegment CoreTree PatTree ClauseTree DefTree PatSegmentTree SegmentTree StepTree tree_layer pat_layer clause_layer def_layer pat_segment_layer segment_layer step_layer x ≡ plain_pat_segment x
plain_pat_segment_is x = fold_out-CorePatSegment CoreTree PatTree ClauseTree DefTree PatSegmentTree SegmentTree StepTree tree_layer pat_layer clause_layer def_layer pat_segment_layer segment_layer step_layer x

plain_segment_is : (x : CoreSegment) → fold-CoreSegment CoreTree PatTree ClauseTree DefTree PatSegmentTree SegmentTree StepTree tree_layer pat_layer clause_layer def_layer pat_segment_layer segment_layer step_layer x ≡ plain_segment x
plain_segment_is x = fold_out-CoreSegment CoreTree PatTree ClauseTree DefTree PatSegmentTree SegmentTree StepTree tree_layer pat_layer clause_layer def_layer pat_segment_layer segment_layer step_layer x

plain_step_is : (x : LetStep) → fold-LetStep CoreTree PatTree ClauseTree DefTree PatSegmentTree SegmentTree StepTree tree_layer pat_layer clause_layer def_layer pat_segment_layer segment_layer step_layer x ≡ plain_step x
plain_step_is x = fold_out-LetStep CoreTree PatTree ClauseTree DefTree PatSegmentTree SegmentTree StepTree tree_layer pat_layer clause_layer def_layer pat_segment_layer segment_layer step_layer x

-- ---- expressions

pub plain_var : (v : CoreVar) → plain (e.Var v) ≡ t.var v
plain_var v = ap plain (sym (e.rolls-Var v)) ∙ fold-roll-CoreExpr CoreTree PatTree ClauseTree DefTree PatSegmentTree SegmentTree StepTree tree_layer pat_layer clause_layer def_layer pat_segment_layer segment_layer step_layer (layer.CoreExpr::Var v)

pub plain_literal : (l : CoreLit) → plain (e.Lit l) ≡ t.lit (plain_lit l)
plain_literal l = ap plain (sym (e.rolls-Lit l)) ∙ fold-roll-CoreExpr CoreTree PatTree ClauseTree DefTree PatSegmentTree SegmentTree StepTree tree_layer pat_layer clause_layer def_layer pat_segment_layer segment_layer step_layer (layer.CoreExpr::Lit l)

pub plain_fun_name : (f : FName) → plain (e.FunName f) ≡ t.fun_name f
plain_fun_name f = ap plain (sym (e.rolls-FunName f)) ∙ fold-roll-CoreExpr CoreTree PatTree ClauseTree DefTree PatSegmentTree SegmentTree StepTree tree_layer pat_layer clause_layer def_layer pat_segment_layer segment_layer step_layer (layer.FunName f)

pub plain_fun : (vs : Vec CoreVar Global) (b : Box CoreExpr Global) → plain (e.Fun vs b) ≡ t.a_fun vs.items (plain b.value)
plain_fun vs b = ap plain (sym (e.rolls-Fun vs b)) ∙ fold-roll-CoreExpr CoreTree PatTree ClauseTree DefTree PatSegmentTree SegmentTree StepTree tree_layer pat_layer clause_layer def_layer pat_segment_layer segment_layer step_layer (layer.Fun vs b)

pub plain_value_list : (es : Vec CoreExpr Global) → plain (e.ValueList es) ≡ t.value_list (plain_all es.items)
plain_value_list es = ap plain (sym (e.rolls-ValueList es)) ∙ fold-roll-CoreExpr CoreTree PatTree ClauseTree DefTree PatSegmentTree SegmentTree StepTree tree_layer pat_layer clause_layer def_layer pat_segment_layer segment_layer step_layer (layer.ValueList es)

pub plain_tuple : (es : Vec CoreExpr Global) → plain (e.Tuple es) ≡ t.tuple (plain_all es.items)
plain_tuple es = ap plain (sym (e.rolls-Tuple es)) ∙ fold-roll-CoreExpr CoreTree PatTree ClauseTree DefTree PatSegmentTree SegmentTree StepTree tree_layer pat_layer clause_layer def_layer pat_segment_layer segment_layer step_layer (layer.CoreExpr::Tuple es)

pub plain_items : (es : Vec CoreExpr Global) (tail : Option (Box CoreExpr Global)) → plain (e.List es tail) ≡ plain_list es.items tail
plain_items es None = ap plain (sym (e.rolls-List es None)) ∙ fold-roll-CoreExpr CoreTree PatTree ClauseTree DefTree PatSegmentTree SegmentTree StepTree tree_layer pat_layer clause_layer def_layer pat_segment_layer segment_layer step_layer (layer.CoreExpr::List es None)
plain_items es (Some b) = ap plain (sym (e.rolls-List es (Some b))) ∙ fold-roll-CoreExpr CoreTree PatTree ClauseTree DefTree PatSegmentTree SegmentTree StepTree tree_layer pat_layer clause_layer def_layer pat_segment_layer segment_layer step_layer (layer.CoreExpr::List es (Some b))

pub plain_bin : (ss : Vec CoreSegment Global) → plain (e.Bin ss) ≡ t.bin (plain_segments ss.items)
plain_bin ss = ap plain (sym (e.rolls-Bin ss)) ∙ fold-roll-CoreExpr CoreTree PatTree ClauseTree DefTree PatSegmentTree SegmentTree StepTree tree_layer pat_layer clause_layer def_layer pat_segment_layer segment_layer step_layer (layer.CoreExpr::Bin ss) ∙ ap (λ z. t.bin (segments z)) (map_same (fold-CoreSegment CoreTree PatTree ClauseTree DefTree PatSegmentTree SegmentTree StepTree tree_layer pat_layer clause_layer def_layer pat_segment_layer segment_layer step_layer) plain_segment plain_segment_is ss.items)

pub plain_lets : (ss : Vec LetStep Global) (b : Box CoreExpr Global) → plain (e.Lets ss b) ≡ t.lets (plain_steps ss.items) (plain b.value)
plain_lets ss b = ap plain (sym (e.rolls-Lets ss b)) ∙ fold-roll-CoreExpr CoreTree PatTree ClauseTree DefTree PatSegmentTree SegmentTree StepTree tree_layer pat_layer clause_layer def_layer pat_segment_layer segment_layer step_layer (layer.Lets ss b) ∙ ap (λ z. t.lets (steps z) (plain b.value)) (map_same (fold-LetStep CoreTree PatTree ClauseTree DefTree PatSegmentTree SegmentTree StepTree tree_layer pat_layer clause_layer def_layer pat_segment_layer segment_layer step_layer) plain_step plain_step_is ss.items)

pub plain_letrec : (ds : Vec CoreDef Global) (b : Box CoreExpr Global) → plain (e.Letrec ds b) ≡ t.letrec (plain_defs ds.items) (plain b.value)
plain_letrec ds b = ap plain (sym (e.rolls-Letrec ds b)) ∙ fold-roll-CoreExpr CoreTree PatTree ClauseTree DefTree PatSegmentTree SegmentTree StepTree tree_layer pat_layer clause_layer def_layer pat_segment_layer segment_layer step_layer (layer.Letrec ds b) ∙ ap (λ z. t.letrec (defs z) (plain b.value)) (map_same (fold-CoreDef CoreTree PatTree ClauseTree DefTree PatSegmentTree SegmentTree StepTree tree_layer pat_layer clause_layer def_layer pat_segment_layer segment_layer step_layer) plain_def plain_def_is ds.items)

pub plain_case : (a : Box CoreExpr Global) (cs : Vec CoreClause Global) → plain (e.Case a cs) ≡ t.case_of (plain a.value) (plain_clauses cs.items)
plain_case a cs = ap plain (sym (e.rolls-Case a cs)) ∙ fold-roll-CoreExpr CoreTree PatTree ClauseTree DefTree PatSegmentTree SegmentTree StepTree tree_layer pat_layer clause_layer def_layer pat_segment_layer segment_layer step_layer (layer.Case a cs) ∙ ap (λ z. t.case_of (plain a.value) (clauses z)) (map_same (fold-CoreClause CoreTree PatTree ClauseTree DefTree PatSegmentTree SegmentTree StepTree tree_layer pat_layer clause_layer def_layer pat_segment_layer segment_layer step_layer) plain_clause plain_clause_is cs.items)

pub plain_apply : (f : Box CoreExpr Global) (es : Vec CoreExpr Global) → plain (e.Apply f es) ≡ t.apply (plain f.value) (plain_all es.items)
plain_apply f es = ap plain (sym (e.rolls-Apply f es)) ∙ fold-roll-CoreExpr CoreTree PatTree ClauseTree DefTree PatSegmentTree SegmentTree StepTree tree_layer pat_layer clause_layer def_layer pat_segment_layer segment_layer step_layer (layer.Apply f es)

pub plain_call : (m f : Box CoreExpr Global) (es : Vec CoreExpr Global) → plain (e.Call m f es) ≡ t.call (plain m.value) (plain f.value) (plain_all es.items)
plain_call m f es = ap plain (sym (e.rolls-Call m f es)) ∙ fold-roll-CoreExpr CoreTree PatTree ClauseTree DefTree PatSegmentTree SegmentTree StepTree tree_layer pat_layer clause_layer def_layer pat_segment_layer segment_layer step_layer (layer.Call m f es)

pub plain_primop : (n : Name) (es : Vec CoreExpr Global) → plain (e.Primop n es) ≡ t.primop n (plain_all es.items)
plain_primop n es = ap plain (sym (e.rolls-Primop n es)) ∙ fold-roll-CoreExpr CoreTree PatTree ClauseTree DefTree PatSegmentTree SegmentTree StepTree tree_layer pat_layer clause_layer def_layer pat_segment_layer segment_layer step_layer (layer.Primop n es)

pub plain_do : (a b : Box CoreExpr Global) → plain (e.Do a b) ≡ t.do_then (plain a.value) (plain b.value)
plain_do a b = ap plain (sym (e.rolls-Do a b)) ∙ fold-roll-CoreExpr CoreTree PatTree ClauseTree DefTree PatSegmentTree SegmentTree StepTree tree_layer pat_layer clause_layer def_layer pat_segment_layer segment_layer step_layer (layer.Do a b)

pub plain_receive : (cs : Vec CoreClause Global) (t' b : Box CoreExpr Global) → plain (e.Receive cs t' b) ≡ t.receive (plain_clauses cs.items) (plain t'.value) (plain b.value)
plain_receive cs t' b = ap plain (sym (e.rolls-Receive cs t' b)) ∙ fold-roll-CoreExpr CoreTree PatTree ClauseTree DefTree PatSegmentTree SegmentTree StepTree tree_layer pat_layer clause_layer def_layer pat_segment_layer segment_layer step_layer (layer.Receive cs t' b) ∙ ap (λ z. t.receive (clauses z) (plain t'.value) (plain b.value)) (map_same (fold-CoreClause CoreTree PatTree ClauseTree DefTree PatSegmentTree SegmentTree StepTree tree_layer pat_layer clause_layer def_layer pat_segment_layer segment_layer step_layer) plain_clause plain_clause_is cs.items)

pub plain_try : (a : Box CoreExpr Global) (vs : Vec CoreVar Global) (b : Box CoreExpr Global) (ws : Vec CoreVar Global) (h : Box CoreExpr Global) → plain (e.Try a vs b ws h) ≡ t.try_catch (plain a.value) vs.items (plain b.value) ws.items (plain h.value)
plain_try a vs b ws h = ap plain (sym (e.rolls-Try a vs b ws h)) ∙ fold-roll-CoreExpr CoreTree PatTree ClauseTree DefTree PatSegmentTree SegmentTree StepTree tree_layer pat_layer clause_layer def_layer pat_segment_layer segment_layer step_layer (layer.Try a vs b ws h)

-- ---- patterns

pub plain_pat_var : (v : CoreVar) → plain_pat (p.Var v) ≡ t.pat_var v
plain_pat_var v = ap plain_pat (sym (p.rolls-Var v)) ∙ fold-roll-CorePat CoreTree PatTree ClauseTree DefTree PatSegmentTree SegmentTree StepTree tree_layer pat_layer clause_layer def_layer pat_segment_layer segment_layer step_layer (layer.CorePat::Var v)

pub plain_pat_lit : (l : CoreLit) → plain_pat (p.Lit l) ≡ t.pat_lit (plain_lit l)
plain_pat_lit l = ap plain_pat (sym (p.rolls-Lit l)) ∙ fold-roll-CorePat CoreTree PatTree ClauseTree DefTree PatSegmentTree SegmentTree StepTree tree_layer pat_layer clause_layer def_layer pat_segment_layer segment_layer step_layer (layer.CorePat::Lit l)

pub plain_pat_tuple : (ps : Vec CorePat Global) → plain_pat (p.Tuple ps) ≡ t.pat_tuple (plain_pats ps.items)
plain_pat_tuple ps = ap plain_pat (sym (p.rolls-Tuple ps)) ∙ fold-roll-CorePat CoreTree PatTree ClauseTree DefTree PatSegmentTree SegmentTree StepTree tree_layer pat_layer clause_layer def_layer pat_segment_layer segment_layer step_layer (layer.CorePat::Tuple ps)

pub plain_pat_items : (ps : Vec CorePat Global) (tail : Option (Box CorePat Global)) → plain_pat (p.List ps tail) ≡ plain_pat_list ps.items tail
plain_pat_items ps None = ap plain_pat (sym (p.rolls-List ps None)) ∙ fold-roll-CorePat CoreTree PatTree ClauseTree DefTree PatSegmentTree SegmentTree StepTree tree_layer pat_layer clause_layer def_layer pat_segment_layer segment_layer step_layer (layer.CorePat::List ps None)
plain_pat_items ps (Some b) = ap plain_pat (sym (p.rolls-List ps (Some b))) ∙ fold-roll-CorePat CoreTree PatTree ClauseTree DefTree PatSegmentTree SegmentTree StepTree tree_layer pat_layer clause_layer def_layer pat_segment_layer segment_layer step_layer (layer.CorePat::List ps (Some b))

pub plain_pat_alias : (v : CoreVar) (q : Box CorePat Global) → plain_pat (p.Alias v q) ≡ t.alias v (plain_pat q.value)
plain_pat_alias v q = ap plain_pat (sym (p.rolls-Alias v q)) ∙ fold-roll-CorePat CoreTree PatTree ClauseTree DefTree PatSegmentTree SegmentTree StepTree tree_layer pat_layer clause_layer def_layer pat_segment_layer segment_layer step_layer (layer.Alias v q)

pub plain_pat_bin : (ss : Vec CorePatSegment Global) → plain_pat (p.Bin ss) ≡ t.pat_bin (plain_pat_segments ss.items)
plain_pat_bin ss = ap plain_pat (sym (p.rolls-Bin ss)) ∙ fold-roll-CorePat CoreTree PatTree ClauseTree DefTree PatSegmentTree SegmentTree StepTree tree_layer pat_layer clause_layer def_layer pat_segment_layer segment_layer step_layer (layer.CorePat::Bin ss) ∙ ap (λ z. t.pat_bin (pat_segments z)) (map_same (fold-CorePatSegment CoreTree PatTree ClauseTree DefTree PatSegmentTree SegmentTree StepTree tree_layer pat_layer clause_layer def_layer pat_segment_layer segment_layer step_layer) plain_pat_segment plain_pat_segment_is ss.items)

pub ruleset plain_laws = (plain_lit_int, plain_lit_atom, plain_lit_items, plain_lit_tuple, plain_var, plain_literal, plain_fun_name, plain_fun, plain_value_list, plain_tuple, plain_items, plain_bin, plain_lets, plain_letrec, plain_case, plain_apply, plain_call, plain_primop, plain_do, plain_receive, plain_try, plain_pat_var, plain_pat_lit, plain_pat_tuple, plain_pat_items, plain_pat_alias, plain_pat_bin)

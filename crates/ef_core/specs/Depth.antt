-- The depth of a Core tree: 1 for a node without parts, and else one more than the greatest of its parts, which are the
-- expressions, patterns and literals that stand directly in it. Clauses, functions and segments are no level of their
-- own, and a run of lets is one node.
use Rattle.std.specs.Prelude.{ℕ, suc, max, List, [], ◌∷◌}
use Rattle.ef_core.specs.Tree.{LitTree, LitTrees, CoreTree, CoreTrees, CoreSegments, CoreSteps, CoreDefs, CoreClauses, PatTree, PatTrees, PatSegments, AttributeTree, DefTree, CoreModuleTree, int, atom, lit_list, lit_list_to, lit_tuple, no_lits, more_lits, var, lit, fun_name, a_fun, value_list, tuple, list, list_to, bin, lets, letrec, case_of, apply, call, primop, do_then, receive, try_catch, end, more, no_segments, segment, done, step, no_defs, def, no_clauses, clause, pat_var, pat_lit, pat_tuple, pat_list, pat_list_to, alias, pat_bin, no_pats, more_pats, no_pat_segments, pat_segment}

abbrev mutual
  pub lit_depth : LitTree → ℕ
  lit_depth (int i) = 1
  lit_depth (atom n) = 1
  lit_depth (lit_list ls) = suc (lits_depth ls)
  lit_depth (lit_list_to ls l) = suc (max (lits_depth ls) (lit_depth l))
  lit_depth (lit_tuple ls) = suc (lits_depth ls)

  pub lits_depth : LitTrees → ℕ
  lits_depth no_lits = 0
  lits_depth (more_lits l ls) = max (lit_depth l) (lits_depth ls)

abbrev mutual
  pub depth : CoreTree → ℕ
  depth (var v) = 1
  depth (lit l) = lit_depth l
  depth (fun_name f) = 1
  depth (a_fun vs b) = suc (depth b)
  depth (value_list es) = suc (all_depth es)
  depth (tuple es) = suc (all_depth es)
  depth (list es) = suc (all_depth es)
  depth (list_to es e) = suc (max (all_depth es) (depth e))
  depth (bin ss) = suc (segments_depth ss)
  depth (lets ss e) = suc (max (steps_depth ss) (depth e))
  depth (letrec ds e) = suc (max (defs_depth ds) (depth e))
  depth (case_of e cs) = suc (max (depth e) (clauses_depth cs))
  depth (apply f es) = suc (max (depth f) (all_depth es))
  depth (call m f es) = suc (max (depth m) (max (depth f) (all_depth es)))
  depth (primop n es) = suc (all_depth es)
  depth (do_then a b) = suc (max (depth a) (depth b))
  depth (receive cs t b) = suc (max (clauses_depth cs) (max (depth t) (depth b)))
  depth (try_catch a vs b ws h) = suc (max (depth a) (max (depth b) (depth h)))

  pub all_depth : CoreTrees → ℕ
  all_depth end = 0
  all_depth (more e es) = max (depth e) (all_depth es)

  pub segments_depth : CoreSegments → ℕ
  segments_depth no_segments = 0
  segments_depth (segment e size unit kind flags ss) = max (depth e) (max (depth size) (max (lit_depth flags) (segments_depth ss)))

  pub steps_depth : CoreSteps → ℕ
  steps_depth done = 0
  steps_depth (step vs e ss) = max (depth e) (steps_depth ss)

  pub defs_depth : CoreDefs → ℕ
  defs_depth no_defs = 0
  defs_depth (def f vs b ds) = max (depth b) (defs_depth ds)

  pub clauses_depth : CoreClauses → ℕ
  clauses_depth no_clauses = 0
  clauses_depth (clause ps g b cs) = max (pats_depth ps) (max (depth g) (max (depth b) (clauses_depth cs)))

  pub pat_depth : PatTree → ℕ
  pat_depth (pat_var v) = 1
  pat_depth (pat_lit l) = lit_depth l
  pat_depth (pat_tuple ps) = suc (pats_depth ps)
  pat_depth (pat_list ps) = suc (pats_depth ps)
  pat_depth (pat_list_to ps p) = suc (max (pats_depth ps) (pat_depth p))
  pat_depth (alias v p) = suc (pat_depth p)
  pat_depth (pat_bin ss) = suc (pat_segments_depth ss)

  pub pats_depth : PatTrees → ℕ
  pats_depth no_pats = 0
  pats_depth (more_pats p ps) = max (pat_depth p) (pats_depth ps)

  pub pat_segments_depth : PatSegments → ℕ
  pat_segments_depth no_pat_segments = 0
  pat_segments_depth (pat_segment p size unit kind flags ss) = max (pat_depth p) (max (depth size) (max (lit_depth flags) (pat_segments_depth ss)))

abbrev pub terms_depth : List AttributeTree → ℕ
terms_depth [] = 0
terms_depth (a ∷ as') = max (lit_depth a.term) (terms_depth as')

abbrev pub functions_depth : List DefTree → ℕ
functions_depth [] = 0
functions_depth (d ∷ ds) = max (depth d.body) (functions_depth ds)

-- the body of each function and the term of each attribute stand at level 1
abbrev pub module_depth : CoreModuleTree → ℕ
module_depth m = max (terms_depth m.attributes) (functions_depth m.defs)

-- The weight of a Core tree: the number of its expressions, patterns, literals, and variables in lists.
use Rattle.std.specs.Prelude.{ℕ, ◌+◌, length}
use Rattle.ef_core.specs.Tree.{LitTree, LitTrees, CoreTree, CoreTrees, CoreSegments, CoreSteps, CoreDefs, CoreClauses, PatTree, PatTrees, PatSegments, int, atom, lit_list, lit_list_to, lit_tuple, no_lits, more_lits, var, lit, fun_name, a_fun, value_list, tuple, list, list_to, bin, lets, letrec, case_of, apply, call, primop, do_then, receive, try_catch, end, more, no_segments, segment, done, step, no_defs, def, no_clauses, clause, pat_var, pat_lit, pat_tuple, pat_list, pat_list_to, alias, pat_bin, no_pats, more_pats, no_pat_segments, pat_segment}

abbrev mutual
  pub lit_weight : LitTree → ℕ
  lit_weight (int i) = 1
  lit_weight (atom n) = 1
  lit_weight (lit_list ls) = 1 + lits_weight ls
  lit_weight (lit_list_to ls l) = 1 + (lits_weight ls + lit_weight l)
  lit_weight (lit_tuple ls) = 1 + lits_weight ls

  pub lits_weight : LitTrees → ℕ
  lits_weight no_lits = 0
  lits_weight (more_lits l ls) = lit_weight l + lits_weight ls

abbrev mutual
  pub weight : CoreTree → ℕ
  weight (var v) = 1
  weight (lit l) = lit_weight l
  weight (fun_name f) = 1
  weight (a_fun vs b) = 1 + (length vs + weight b)
  weight (value_list es) = 1 + all_weight es
  weight (tuple es) = 1 + all_weight es
  weight (list es) = 1 + all_weight es
  weight (list_to es e) = 1 + (all_weight es + weight e)
  weight (bin ss) = 1 + segments_weight ss
  weight (lets ss e) = 1 + (steps_weight ss + weight e)
  weight (letrec ds e) = 1 + (defs_weight ds + weight e)
  weight (case_of e cs) = 1 + (weight e + clauses_weight cs)
  weight (apply f es) = 1 + (weight f + all_weight es)
  weight (call m f es) = 1 + (weight m + (weight f + all_weight es))
  weight (primop n es) = 1 + all_weight es
  weight (do_then a b) = 1 + (weight a + weight b)
  weight (receive cs t b) = 1 + (clauses_weight cs + (weight t + weight b))
  weight (try_catch a vs b ws h) = 1 + (weight a + (length vs + (weight b + (length ws + weight h))))

  pub all_weight : CoreTrees → ℕ
  all_weight end = 0
  all_weight (more e es) = weight e + all_weight es

  pub segments_weight : CoreSegments → ℕ
  segments_weight no_segments = 0
  segments_weight (segment e size unit kind flags ss) = weight e + (weight size + (lit_weight flags + segments_weight ss))

  pub steps_weight : CoreSteps → ℕ
  steps_weight done = 0
  steps_weight (step vs e ss) = length vs + (weight e + steps_weight ss)

  pub defs_weight : CoreDefs → ℕ
  defs_weight no_defs = 0
  defs_weight (def f vs b ds) = length vs + (weight b + defs_weight ds)

  pub clauses_weight : CoreClauses → ℕ
  clauses_weight no_clauses = 0
  clauses_weight (clause ps g b cs) = pats_weight ps + (weight g + (weight b + clauses_weight cs))

  pub pat_weight : PatTree → ℕ
  pat_weight (pat_var v) = 1
  pat_weight (pat_lit l) = lit_weight l
  pat_weight (pat_tuple ps) = 1 + pats_weight ps
  pat_weight (pat_list ps) = 1 + pats_weight ps
  pat_weight (pat_list_to ps p) = 1 + (pats_weight ps + pat_weight p)
  pat_weight (alias v p) = 1 + pat_weight p
  pat_weight (pat_bin ss) = 1 + pat_segments_weight ss

  pub pats_weight : PatTrees → ℕ
  pats_weight no_pats = 0
  pats_weight (more_pats p ps) = pat_weight p + pats_weight ps

  pub pat_segments_weight : PatSegments → ℕ
  pat_segments_weight no_pat_segments = 0
  pat_segments_weight (pat_segment p size unit kind flags ss) = pat_weight p + (weight size + (lit_weight flags + pat_segments_weight ss))

-- Every variable and every function name in a Core tree is in scope.
use Rattle.std.specs.Prelude.{List, [], ◌∷◌, ◌++◌, ◌≡◌, ◌⊎◌}
use Rattle.ef_core.specs.declared.literal.CoreVar.{CoreVar}
use Rattle.ef_core.specs.declared.literal.FName.{FName}
use Rattle.ef_core.specs.Tree.{CoreTree, CoreTrees, CoreSegments, CoreSteps, CoreDefs, CoreClauses, PatTree, PatTrees, PatSegments, var, lit, fun_name, a_fun, value_list, tuple, list, list_to, bin, lets, letrec, case_of, apply, call, primop, do_then, receive, try_catch, end, more, no_segments, segment, done, step, no_defs, def, no_clauses, clause, pat_var, pat_lit, pat_tuple, pat_list, pat_list_to, alias, pat_bin, no_pats, more_pats, no_pat_segments, pat_segment}

-- one of these
abbrev pub IsAmong : {A : Type 0} → List A → A → Type 0
IsAmong [] x = ⊥
IsAmong (y ∷ ys) x = (x ≡ y) ⊎ IsAmong ys x

-- the variables that a pattern binds, from left to right
abbrev mutual
  pub pat_vars : PatTree → List CoreVar
  pat_vars (pat_var v) = v ∷ []
  pat_vars (pat_lit l) = []
  pat_vars (pat_tuple ps) = pats_vars ps
  pat_vars (pat_list ps) = pats_vars ps
  pat_vars (pat_list_to ps p) = pats_vars ps ++ pat_vars p
  pat_vars (alias v p) = v ∷ pat_vars p
  pat_vars (pat_bin ss) = pat_segments_vars ss

  pub pats_vars : PatTrees → List CoreVar
  pats_vars no_pats = []
  pats_vars (more_pats p ps) = pat_vars p ++ pats_vars ps

  pub pat_segments_vars : PatSegments → List CoreVar
  pat_segments_vars no_pat_segments = []
  pat_segments_vars (pat_segment p size unit kind flags ss) = pat_vars p ++ pat_segments_vars ss

-- the variables that a run of lets binds, the last first
abbrev pub steps_vars : CoreSteps → List CoreVar
steps_vars done = []
steps_vars (step us e ss) = steps_vars ss ++ us

abbrev pub def_names : CoreDefs → List FName
def_names no_defs = []
def_names (def f vs b ds) = f ∷ def_names ds

-- the variables `vs` and the functions `fs` are in scope
abbrev mutual
  pub InScope : List CoreVar → List FName → CoreTree → Type 0
  InScope vs fs (var v) = IsAmong vs v
  InScope vs fs (lit l) = Unit {0}
  InScope vs fs (fun_name f) = IsAmong fs f
  InScope vs fs (a_fun us b) = InScope (us ++ vs) fs b
  InScope vs fs (value_list es) = AllInScope vs fs es
  InScope vs fs (tuple es) = AllInScope vs fs es
  InScope vs fs (list es) = AllInScope vs fs es
  InScope vs fs (list_to es e) = AllInScope vs fs es × InScope vs fs e
  InScope vs fs (bin ss) = SegmentsInScope vs fs ss
  InScope vs fs (lets ss e) = StepsInScope vs fs ss × InScope (steps_vars ss ++ vs) fs e
  InScope vs fs (letrec ds e) = DefsInScope vs (def_names ds ++ fs) ds × InScope vs (def_names ds ++ fs) e
  InScope vs fs (case_of e cs) = InScope vs fs e × ClausesInScope vs fs cs
  InScope vs fs (apply f es) = InScope vs fs f × AllInScope vs fs es
  InScope vs fs (call m f es) = InScope vs fs m × InScope vs fs f × AllInScope vs fs es
  InScope vs fs (primop n es) = AllInScope vs fs es
  InScope vs fs (do_then a b) = InScope vs fs a × InScope vs fs b
  InScope vs fs (receive cs t b) = ClausesInScope vs fs cs × InScope vs fs t × InScope vs fs b
  InScope vs fs (try_catch a us b ws h) = InScope vs fs a × InScope (us ++ vs) fs b × InScope (ws ++ vs) fs h

  pub AllInScope : List CoreVar → List FName → CoreTrees → Type 0
  AllInScope vs fs end = Unit {0}
  AllInScope vs fs (more e es) = InScope vs fs e × AllInScope vs fs es

  pub SegmentsInScope : List CoreVar → List FName → CoreSegments → Type 0
  SegmentsInScope vs fs no_segments = Unit {0}
  SegmentsInScope vs fs (segment e size unit kind flags ss) = InScope vs fs e × InScope vs fs size × SegmentsInScope vs fs ss

  -- each step of a run, behind those before it
  pub StepsInScope : List CoreVar → List FName → CoreSteps → Type 0
  StepsInScope vs fs done = Unit {0}
  StepsInScope vs fs (step us e ss) = InScope vs fs e × StepsInScope (us ++ vs) fs ss

  pub DefsInScope : List CoreVar → List FName → CoreDefs → Type 0
  DefsInScope vs fs no_defs = Unit {0}
  DefsInScope vs fs (def f us b ds) = InScope (us ++ vs) fs b × DefsInScope vs fs ds

  pub ClausesInScope : List CoreVar → List FName → CoreClauses → Type 0
  ClausesInScope vs fs no_clauses = Unit {0}
  ClausesInScope vs fs (clause ps g b cs) =
      SizesInScope vs fs ps × InScope (pats_vars ps ++ vs) fs g × InScope (pats_vars ps ++ vs) fs b × ClausesInScope vs fs cs

  pub SizesInScope : List CoreVar → List FName → PatTrees → Type 0
  SizesInScope vs fs no_pats = Unit {0}
  SizesInScope vs fs (more_pats p ps) = SizeInScope vs fs p × SizesInScope vs fs ps

  -- a size in a pattern stands for a variable from before, or from earlier in the same binary
  pub SizeInScope : List CoreVar → List FName → PatTree → Type 0
  SizeInScope vs fs (pat_var v) = Unit {0}
  SizeInScope vs fs (pat_lit l) = Unit {0}
  SizeInScope vs fs (pat_tuple ps) = SizesInScope vs fs ps
  SizeInScope vs fs (pat_list ps) = SizesInScope vs fs ps
  SizeInScope vs fs (pat_list_to ps p) = SizesInScope vs fs ps × SizeInScope vs fs p
  SizeInScope vs fs (alias v p) = SizeInScope vs fs p
  SizeInScope vs fs (pat_bin ss) = PatSegmentsInScope vs fs ss

  pub PatSegmentsInScope : List CoreVar → List FName → PatSegments → Type 0
  PatSegmentsInScope vs fs no_pat_segments = Unit {0}
  PatSegmentsInScope vs fs (pat_segment p size unit kind flags ss) =
      SizeInScope vs fs p × InScope vs fs size × PatSegmentsInScope (pat_vars p ++ vs) fs ss

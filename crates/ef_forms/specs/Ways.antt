-- Which names may be bound after an expression, and which uses of names are faults, as far as trees are built.
-- A way is the set of names that are bound on it. `ways e s` lists the ways that lead on from `e`, each grown from the
-- one set `s` with which it starts.
use Rattle.std.specs.Prelude.{ℕ, List, [], ◌∷◌, ◌++◌, codes, Bool, false, ◌||◌, ◌&&◌, ◌==◌, map, if◌then◌else◌}
use Rattle.std.specs.List.{flat_map, list_any, list_all}
use Rattle.ef_base.specs.declared.name.Name.{Name}
use Rattle.ef_base.specs.declared.fault.Place.{Place}
use Rattle.ef_base.specs.declared.fault.Fault.{Fault}
use Rattle.ef_base.specs.NamedFaults as fault
use Rattle.ef_base.specs.Texts.{Texts, text}
use Rattle.ef_forms.specs.Tree.{Tree, Shape, Trees, Guards, Clauses, FunctionTree, tree, var, any, list, list_to, tuple, matching, call, remote, case_of, end, more, no_guard, or_guard, no_clauses, clause}

-- a set of names, each by its number
abbrev pub NameSet : Type 0
NameSet = ℕ → Bool

abbrev pub no_names : NameSet
no_names = λ y. false

abbrev pub one_name : Name → NameSet
one_name n = λ y. n.index == y

abbrev pub union : NameSet → NameSet → NameSet
union s t = λ y. s y || t y

abbrev pub common : NameSet → NameSet → NameSet
common s t = λ y. s y && t y

-- the sets that may be bound after something that starts from one set
abbrev pub Way : Type 0
Way = NameSet → List NameSet

abbrev pub stay : Way
stay s = s ∷ []

abbrev pub bind : NameSet → Way
bind t s = union s t ∷ []

-- the one or the other
abbrev pub or_else : Way → Way → Way
or_else f g s = f s ++ g s

-- one after the other
abbrev pub before : Way → Way → Way
before f g s = flat_map g (f s)

-- the unions of one result of each
abbrev pub pairs : List NameSet → List NameSet → List NameSet
pairs a b = flat_map (λ s. map (union s) b) a

-- side by side: both start from the same set, and do not see each other's names
abbrev pub beside : Way → Way → Way
beside f g s = pairs (f s) (g s)

-- the variables of trees
abbrev mutual
  pub names : Tree → NameSet
  names (tree p e) = shape_names e

  pub shape_names : Shape → NameSet
  shape_names (var n) = one_name n
  shape_names (list es) = all_names es
  shape_names (list_to es e) = union (all_names es) (names e)
  shape_names (tuple es) = all_names es
  shape_names (matching p e) = union (names p) (names e)
  shape_names (call f es) = union (names f) (all_names es)
  shape_names (remote m f es) = union (names m) (union (names f) (all_names es))
  shape_names (case_of e cs) = union (names e) (clauses_names cs)
  shape_names _ = no_names

  pub all_names : Trees → NameSet
  all_names end = no_names
  all_names (more e es) = union (names e) (all_names es)

  pub guards_names : Guards → NameSet
  guards_names no_guard = no_names
  guards_names (or_guard es gs) = union (all_names es) (guards_names gs)

  pub clauses_names : Clauses → NameSet
  clauses_names no_clauses = no_names
  clauses_names (clause p ps g body cs) = union (all_names ps) (union (guards_names g) (union (all_names body) (clauses_names cs)))

-- after a use the name counts as bound
abbrev mutual
  pub ways : Tree → Way
  ways (tree p e) = shape_ways e

  pub shape_ways : Shape → Way
  shape_ways (var n) = bind (one_name n)
  shape_ways (list es) = side_by_side es
  shape_ways (list_to es e) = beside (side_by_side es) (ways e)
  shape_ways (tuple es) = side_by_side es
  -- the pattern binds behind the expression
  shape_ways (matching p e) = before (ways e) (bind (names p))
  shape_ways (call f es) = beside (ways f) (side_by_side es)
  shape_ways (remote m f es) = beside (ways m) (beside (ways f) (side_by_side es))
  -- the clauses start behind the expression
  shape_ways (case_of e cs) = before (ways e) (clauses_ways cs)
  shape_ways _ = stay

  pub side_by_side : Trees → Way
  side_by_side end = stay
  side_by_side (more e es) = beside (ways e) (side_by_side es)

  -- a body goes from left to right
  pub body_ways : Trees → Way
  body_ways end = stay
  body_ways (more e es) = before (ways e) (body_ways es)

  -- what one of the clauses leads to; the names of its patterns are bound first, and its guard leaves the sets as they are
  pub clauses_ways : Clauses → Way
  clauses_ways no_clauses = stay
  clauses_ways (clause p ps g body no_clauses) = before (bind (all_names ps)) (body_ways body)
  clauses_ways (clause p ps g body (clause q qs h d cs)) = or_else (before (bind (all_names ps)) (body_ways body)) (clauses_ways (clause q qs h d cs))

-- ---- faults

-- the name is bound on some of these ways
abbrev pub on_some : Name → List NameSet → Bool
on_some n sets = list_any (λ s. s n.index) sets

-- on all of them
abbrev pub on_all : Name → List NameSet → Bool
on_all n sets = list_all (λ s. s n.index) sets

module _ (all : Texts) where
  abbrev pub unbound : Place → Name → Fault
  unbound p n = fault.unbound p (text all n)

  abbrev pub unsafe : Place → Name → Fault
  unsafe p n = fault.unsafe p (text all n)

  abbrev pub wildcard : Place → Fault
  wildcard p = fault.unbound p (codes "_")

  -- a use is unbound where the name is bound on no way, and unsafe where it is bound on some and not on all
  abbrev pub use_faults : Place → Name → List NameSet → List Fault
  use_faults p n sets = if on_all n sets then [] else (if on_some n sets then (unsafe p n ∷ []) else (unbound p n ∷ []))

  -- a name in a pattern is unsafe in the same way, and otherwise is bound or compares
  abbrev pub name_faults : Place → Name → List NameSet → List Fault
  name_faults p n sets = if on_all n sets then [] else (if on_some n sets then (unsafe p n ∷ []) else [])

  -- the variables of a pattern
  abbrev mutual
    pub pattern_faults : Tree → List NameSet → List Fault
    pattern_faults (tree p e) sets = pattern_shape_faults p e sets

    pub pattern_shape_faults : Place → Shape → List NameSet → List Fault
    pattern_shape_faults p (var n) sets = name_faults p n sets
    pattern_shape_faults p (list es) sets = patterns_faults es sets
    pattern_shape_faults p (list_to es e) sets = patterns_faults es sets ++ pattern_faults e sets
    pattern_shape_faults p (tuple es) sets = patterns_faults es sets
    pattern_shape_faults p (matching q e) sets = pattern_faults q sets ++ pattern_faults e sets
    pattern_shape_faults p (call f es) sets = pattern_faults f sets ++ patterns_faults es sets
    pattern_shape_faults p (remote m f es) sets = pattern_faults m sets ++ (pattern_faults f sets ++ patterns_faults es sets)
    pattern_shape_faults p (case_of e cs) sets = pattern_faults e sets ++ pattern_clauses_faults cs sets
    pattern_shape_faults p _ sets = []

    pub patterns_faults : Trees → List NameSet → List Fault
    patterns_faults end sets = []
    patterns_faults (more e es) sets = pattern_faults e sets ++ patterns_faults es sets

    pub pattern_guards_faults : Guards → List NameSet → List Fault
    pattern_guards_faults no_guard sets = []
    pattern_guards_faults (or_guard es gs) sets = patterns_faults es sets ++ pattern_guards_faults gs sets

    pub pattern_clauses_faults : Clauses → List NameSet → List Fault
    pattern_clauses_faults no_clauses sets = []
    pattern_clauses_faults (clause p ps g body cs) sets =
        patterns_faults ps sets ++ (pattern_guards_faults g sets ++ (patterns_faults body sets ++ pattern_clauses_faults cs sets))

  abbrev mutual
    pub faults : Tree → List NameSet → List Fault
    faults (tree p e) sets = shape_faults p e sets

    pub shape_faults : Place → Shape → List NameSet → List Fault
    shape_faults p (var n) sets = use_faults p n sets
    -- `_` is never bound
    shape_faults p any sets = wildcard p ∷ []
    shape_faults p (list es) sets = all_faults es sets
    shape_faults p (list_to es e) sets = all_faults es sets ++ faults e sets
    shape_faults p (tuple es) sets = all_faults es sets
    shape_faults p (matching q e) sets = faults e sets ++ pattern_faults q (flat_map (ways e) sets)
    shape_faults p (call f es) sets = faults f sets ++ all_faults es sets
    shape_faults p (remote m f es) sets = faults m sets ++ (faults f sets ++ all_faults es sets)
    shape_faults p (case_of e cs) sets = faults e sets ++ clauses_faults cs (flat_map (ways e) sets)
    shape_faults p _ sets = []

    pub all_faults : Trees → List NameSet → List Fault
    all_faults end sets = []
    all_faults (more e es) sets = faults e sets ++ all_faults es sets

    pub body_faults : Trees → List NameSet → List Fault
    body_faults end sets = []
    body_faults (more e es) sets = faults e sets ++ body_faults es (flat_map (ways e) sets)

    -- the tests of a guard go from left to right, and so do its alternatives
    pub guards_faults : Guards → List NameSet → List Fault
    guards_faults no_guard sets = []
    guards_faults (or_guard es gs) sets = body_faults es sets ++ guards_faults gs (flat_map (body_ways es) sets)

    -- the guard and the body of a clause start behind its patterns, and the body does not see what the guard uses
    pub clauses_faults : Clauses → List NameSet → List Fault
    clauses_faults no_clauses sets = []
    clauses_faults (clause p ps g body cs) sets =
        let inside = flat_map (bind (all_names ps)) sets in
        patterns_faults ps sets ++ (guards_faults g inside ++ (body_faults body inside ++ clauses_faults cs sets))

  -- a function starts with no name bound
  abbrev pub function_faults : FunctionTree → List Fault
  function_faults f = clauses_faults f.clauses (no_names ∷ [])

-- Small modules with `case`, in the source and in Core.
use Rattle.std.specs.Prelude.{ℕ, pos, List, [], ◌∷◌}
use Rattle.ef_base.specs.declared.name.Name.{Name}
use Rattle.ef_core.specs.declared.literal.CoreVar.TheVariants.{Numbered}
use Rattle.ef_core.specs.Plain as plain
use Rattle.ef_core.specs.Plain.{ClauseTree, StepTree}
use Rattle.ef_core.specs.Tree as c
use Rattle.ef_core.specs.Tree.{CoreTree, PatTree, DefTree, CoreModuleTree}
use Rattle.ef_forms.specs.Tree as t
use Rattle.ef_forms.specs.Tree.{Tree, Clauses, ModuleTree, no_clauses}
use Rattle.ef_meaning.specs.Cases.{case_step, together}
use Rattle.ef_meaning.specs.Examples.{f_name, g_name, h_name, a_name, x_name, y_name, big_z_name, big_e_name, little_b_name, ok_name, error_name, same_name, case_clause_name, function_clause_name, at, var, atom, remote, core_var, core_atom, core_call, step, core_function, core_with}
use Rattle.ef_meaning.specs.Matching.{int, tuple, match, where_matches, function_module, core_clause, core_case, pat, always, are_equal, core_fails, core_last}

-- ---- the source

abbrev pub branch : Tree → Clauses → Tree
branch e cs = at (t.case_of e cs)

abbrev pub any : Tree
any = at t.any

-- a function of X
abbrev pub of_x : List Tree → ModuleTree
of_x es = function_module 1 (where_matches (var x_name ∷ []) es no_clauses)

-- f(X) -> case X of {ok, Y} -> Y; E -> Y = E end, Y.
abbrev pub unwrapped : ModuleTree
unwrapped = of_x (branch (var x_name)
    (where_matches (tuple (atom ok_name ∷ var y_name ∷ []) ∷ []) (var y_name ∷ [])
    (where_matches (var big_e_name ∷ []) (match (var y_name) (var big_e_name) ∷ []) no_clauses)) ∷ var y_name ∷ [])

-- {ok, Y} -> Y; {error, Y} -> Y
abbrev pub tagged_clauses : Clauses
tagged_clauses =
    where_matches (tuple (atom ok_name ∷ var y_name ∷ []) ∷ []) (var y_name ∷ [])
    (where_matches (tuple (atom error_name ∷ var y_name ∷ []) ∷ []) (var y_name ∷ []) no_clauses)

-- f(X) -> case X of {ok, Y} -> Y; {error, Y} -> Y end, Y.
abbrev pub tagged_value : ModuleTree
tagged_value = of_x (branch (var x_name) tagged_clauses ∷ var y_name ∷ [])

-- f(X) -> case case X of 1 -> Y = a; _ -> Y = b end of a -> Z = Y; b -> Z = 0 end, {Y, Z}.
abbrev pub nested_case : ModuleTree
nested_case = of_x (branch (branch (var x_name)
    (where_matches (int 1 ∷ []) (match (var y_name) (atom a_name) ∷ [])
    (where_matches (any ∷ []) (match (var y_name) (atom little_b_name) ∷ []) no_clauses)))
    (where_matches (atom a_name ∷ []) (match (var big_z_name) (var y_name) ∷ [])
    (where_matches (atom little_b_name ∷ []) (match (var big_z_name) (int 0) ∷ []) no_clauses)) ∷ tuple (var y_name ∷ var big_z_name ∷ []) ∷ [])

-- f(X) -> case X of {Y} -> Y; Y -> Y end, case X of Y -> a; _ -> b end.
abbrev pub bound_inside : ModuleTree
bound_inside = of_x (branch (var x_name)
    (where_matches (tuple (var y_name ∷ []) ∷ []) (var y_name ∷ [])
    (where_matches (var y_name ∷ []) (var y_name ∷ []) no_clauses))
    ∷ branch (var x_name)
    (where_matches (var y_name ∷ []) (atom a_name ∷ [])
    (where_matches (any ∷ []) (atom little_b_name ∷ []) no_clauses)) ∷ [])

-- f(X) -> case g:h(X) of X -> same; Y -> Y end.
abbrev pub same_answer : ModuleTree
same_answer = of_x (branch (remote g_name h_name (var x_name ∷ []))
    (where_matches (var x_name ∷ []) (atom same_name ∷ [])
    (where_matches (var y_name ∷ []) (var y_name ∷ []) no_clauses)) ∷ [])

-- ---- Core

-- a body over variable 1, of a function of one parameter
abbrev pub core_of_x : CoreTree → List DefTree
core_of_x body = core_function f_name 1 (Numbered 0 ∷ []) (core_case (core_var 0) (core_clause (pat 1 ∷ []) always body ∷ core_last function_clause_name 20 21 ∷ [])) ∷ []

-- a word and a variable
abbrev pub tagged_pat : Name → ℕ → PatTree
tagged_pat word n = c.pat_tuple (plain.pats (c.pat_lit (c.atom word) ∷ pat n ∷ []))

-- the values of two variables
abbrev pub both_of : ℕ → ℕ → CoreTree
both_of m n = together (core_var m ∷ core_var n ∷ [])

-- steps, and then an expression
abbrev pub core_steps : List StepTree → CoreTree → CoreTree
core_steps ss e = c.lets (plain.steps ss) e

-- a case whose value gets this variable, and whose names get the next ones
abbrev pub branch_step : ℕ → List Name → CoreTree → List ClauseTree → StepTree
branch_step n sure e cs = case_step n sure e cs always (Numbered 10) (core_fails case_clause_name 10 11)

abbrev pub core_unwrapped : CoreModuleTree
core_unwrapped = core_with (core_of_x (core_steps
    (branch_step 2 (y_name ∷ []) (core_var 1) (core_clause (tagged_pat ok_name 2 ∷ []) always (both_of 2 2) ∷ core_clause (pat 2 ∷ []) always (both_of 2 2) ∷ []) ∷ [])
    (core_var 3)))

abbrev pub core_tagged_clauses : List ClauseTree
core_tagged_clauses = core_clause (tagged_pat ok_name 2 ∷ []) always (both_of 2 2) ∷ core_clause (tagged_pat error_name 2 ∷ []) always (both_of 2 2) ∷ []

abbrev pub tagged_body : CoreTree
tagged_body = core_steps (branch_step 2 (y_name ∷ []) (core_var 1) core_tagged_clauses ∷ []) (core_var 3)

abbrev pub tagged_value_defs : List DefTree
tagged_value_defs = core_of_x tagged_body

abbrev pub core_tagged_value : CoreModuleTree
core_tagged_value = core_with tagged_value_defs

abbrev pub core_nested_case : CoreModuleTree
core_nested_case = core_with (core_of_x (core_steps
    (branch_step 2 (y_name ∷ []) (core_var 1)
    (core_clause (c.pat_lit (c.int (pos 1)) ∷ []) always (core_steps (step 2 (core_atom a_name) ∷ []) (both_of 2 2)) ∷ core_clause (pat 2 ∷ []) always (core_steps (step 3 (core_atom little_b_name) ∷ []) (both_of 3 3)) ∷ [])
    ∷ branch_step 4 (big_z_name ∷ []) (core_var 2)
    (core_clause (c.pat_lit (c.atom a_name) ∷ []) always (both_of 3 3) ∷ core_clause (c.pat_lit (c.atom little_b_name) ∷ []) always (core_steps (step 4 (c.lit (c.int (pos 0))) ∷ []) (both_of 4 4)) ∷ []) ∷ [])
    (c.tuple (plain.trees (core_var 3 ∷ core_var 5 ∷ [])))))

abbrev pub core_bound_inside : CoreModuleTree
core_bound_inside = core_with (core_of_x (core_steps
    (branch_step 2 (y_name ∷ []) (core_var 1) (core_clause (c.pat_tuple (plain.pats (pat 2 ∷ [])) ∷ []) always (both_of 2 2) ∷ core_clause (pat 2 ∷ []) always (both_of 2 2) ∷ [])
    ∷ branch_step 4 [] (core_var 1) (core_clause (pat 4 ∷ []) (are_equal 4 3) (core_atom a_name) ∷ core_clause (pat 4 ∷ []) always (core_atom little_b_name) ∷ []) ∷ [])
    (core_var 4)))

abbrev pub core_same_answer : CoreModuleTree
core_same_answer = core_with (core_of_x (core_steps
    (step 2 (core_call g_name h_name (core_var 1 ∷ []))
    ∷ branch_step 3 [] (core_var 2) (core_clause (pat 3 ∷ []) (are_equal 3 1) (core_atom same_name) ∷ core_clause (pat 3 ∷ []) always (core_var 3) ∷ []) ∷ [])
    (core_var 3)))

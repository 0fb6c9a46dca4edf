-- Small modules with patterns, lists, tuples and matches, in the source, and some in Core.
use Rattle.std.specs.Prelude.{ℕ, pos, List, [], ◌∷◌}
use Rattle.ef_base.specs.declared.name.Name.{Name}
use Rattle.ef_core.specs.declared.literal.CoreVar.TheVariants.{Numbered}
use Rattle.ef_core.specs.Plain as plain
use Rattle.ef_core.specs.Plain.{ClauseTree}
use Rattle.ef_core.specs.Tree as c
use Rattle.ef_core.specs.Tree.{CoreTree, PatTree, DefTree, CoreModuleTree}
use Rattle.ef_forms.specs.Tree as t
use Rattle.ef_forms.specs.Tree.{Tree, Clauses, ModuleTree, no_guard, clause, no_clauses}
use Rattle.ef_forms.specs.Plain.{trees}
use Rattle.ef_meaning.specs.Cases.{together, last_clause}
use Rattle.ef_meaning.specs.Examples.{f_name, g_name, h_name, a_name, little_b_name, x_name, y_name, big_z_name, t_name, big_a_name, b_name, z_name, m_name, true_name, erlang_name, equal_name, match_fail_name, function_clause_name, badmatch_name, here, at, var, atom, call, remote, core_var, core_atom, core_call, step, core_function, core_with}

-- ---- the source

abbrev pub int : ℕ → Tree
int n = at (t.int (pos n))

abbrev pub tuple : List Tree → Tree
tuple es = at (t.tuple (trees es))

abbrev pub list : List Tree → Tree
list es = at (t.list (trees es))

abbrev pub list_to : List Tree → Tree → Tree
list_to es e = at (t.list_to (trees es) e)

abbrev pub match : Tree → Tree → Tree
match p e = at (t.matching p e)

-- patterns and a body, before other clauses
abbrev pub where_matches : List Tree → List Tree → Clauses → Clauses
where_matches ps es cs = clause here (trees ps) no_guard (trees es) cs

-- a module of one function, `f`
abbrev pub function_module : ℕ → Clauses → ModuleTree
function_module arity cs = record {
  name = m_name;
  forms = record { place = here; form = t.export (record { place = here; name = f_name; arity = arity } ∷ []) }
      ∷ record { place = here; form = t.function (record { place = here; name = f_name; arity = arity; clauses = cs }) } ∷ [];
}

-- f([]) -> z;
-- f([X]) -> X;
-- f([X, X | T]) -> {X, T};
-- f([_ | T]) -> f(T).
abbrev pub first_pair : ModuleTree
first_pair = function_module 1 (where_matches (list [] ∷ []) (atom z_name ∷ [])
    (where_matches (list (var x_name ∷ []) ∷ []) (var x_name ∷ [])
    (where_matches (list_to (var x_name ∷ var x_name ∷ []) (var t_name) ∷ []) (tuple (var x_name ∷ var t_name ∷ []) ∷ [])
    (where_matches (list_to (at t.any ∷ []) (var t_name) ∷ []) (call f_name (var t_name ∷ []) ∷ []) no_clauses))))

-- f({A, {B, A}}, B) -> {A, B}.
abbrev pub across : ModuleTree
across = function_module 2 (where_matches (tuple (var big_a_name ∷ tuple (var b_name ∷ var big_a_name ∷ []) ∷ []) ∷ var b_name ∷ []) (tuple (var big_a_name ∷ var b_name ∷ []) ∷ []) no_clauses)

-- f(X) -> {Y, Z} = g:h(X), Y = Z, {Z, Y}.
abbrev pub taken_apart : ModuleTree
taken_apart = function_module 1 (where_matches (var x_name ∷ [])
    (match (tuple (var y_name ∷ var big_z_name ∷ [])) (remote g_name h_name (var x_name ∷ [])) ∷ match (var y_name) (var big_z_name) ∷ tuple (var big_z_name ∷ var y_name ∷ []) ∷ []) no_clauses)

-- f(X) -> Y = g:h(X), {Y, X}.
abbrev pub named_clauses : Clauses
named_clauses = where_matches (var x_name ∷ []) (match (var y_name) (remote g_name h_name (var x_name ∷ [])) ∷ tuple (var y_name ∷ var x_name ∷ []) ∷ []) no_clauses

abbrev pub named_value : ModuleTree
named_value = function_module 1 named_clauses

-- f({X, X}) -> X.
abbrev pub same_twice : ModuleTree
same_twice = function_module 1 (where_matches (tuple (var x_name ∷ var x_name ∷ []) ∷ []) (var x_name ∷ []) no_clauses)

-- f(X) -> {X = 1, Y = X}.
abbrev pub bound_before : ModuleTree
bound_before = function_module 1 (where_matches (var x_name ∷ []) (tuple (match (var x_name) (int 1) ∷ match (var y_name) (var x_name) ∷ []) ∷ []) no_clauses)

-- f() -> {X = 1, X = 2}.
abbrev pub bound_beside : ModuleTree
bound_beside = function_module 0 (where_matches [] (tuple (match (var x_name) (int 1) ∷ match (var x_name) (int 2) ∷ []) ∷ []) no_clauses)

-- ---- Core

abbrev pub core_clause : List PatTree → CoreTree → CoreTree → ClauseTree
core_clause ps guard body = record { pats = plain.pats ps; guard = guard; body = body }

abbrev pub core_case : CoreTree → List ClauseTree → CoreTree
core_case e cs = c.case_of e (plain.clauses cs)

abbrev pub pat : ℕ → PatTree
pat n = c.pat_var (Numbered n)

abbrev pub always : CoreTree
always = core_atom true_name

abbrev pub are_equal : ℕ → ℕ → CoreTree
are_equal m n = core_call erlang_name equal_name (core_var m ∷ core_var n ∷ [])

-- an error whose reason is a word and a value, by a variable of its own
abbrev pub core_fails : Name → ℕ → ℕ → CoreTree
core_fails word n m = c.lets (plain.steps (step m (c.tuple (plain.trees (core_atom word ∷ core_var n ∷ []))) ∷ [])) (c.primop match_fail_name (plain.trees (core_var m ∷ [])))

-- the last clause, for one value
abbrev pub core_last : Name → ℕ → ℕ → ClauseTree
core_last word n m = last_clause always (Numbered n ∷ []) (core_fails word n m)

abbrev pub named_body : CoreTree
named_body = c.lets (plain.steps (step 2 (core_call g_name h_name (core_var 1 ∷ [])) ∷ step 4 (core_case (core_var 2) (core_clause (pat 3 ∷ []) always (core_var 3) ∷ core_last badmatch_name 5 6 ∷ [])) ∷ []))
    (c.tuple (plain.trees (core_var 4 ∷ core_var 1 ∷ [])))

abbrev pub named_case : CoreTree
named_case = core_case (core_var 0) (core_clause (pat 1 ∷ []) always named_body ∷ core_last function_clause_name 7 8 ∷ [])

abbrev pub named_value_defs : List DefTree
named_value_defs = core_function f_name 1 (Numbered 0 ∷ []) named_case ∷ []

abbrev pub core_named_value : CoreModuleTree
core_named_value = core_with named_value_defs

abbrev pub core_same_twice : CoreModuleTree
core_same_twice = core_with (core_function f_name 1 (Numbered 0 ∷ [])
    (core_case (core_var 0) (core_clause (c.pat_tuple (plain.pats (pat 1 ∷ pat 2 ∷ [])) ∷ []) (are_equal 2 1) (core_var 1) ∷ core_last function_clause_name 3 4 ∷ [])) ∷ [])

abbrev pub core_bound_beside : CoreModuleTree
core_bound_beside = core_with (core_function f_name 0 []
    (c.lets (plain.steps (step 0 (c.lit (c.int (pos 1)))
    ∷ record { vars = []; value = core_case (c.lit (c.int (pos 2))) (core_clause (pat 1 ∷ []) (are_equal 1 0) (together []) ∷ core_last badmatch_name 2 3 ∷ []) } ∷ []))
    (c.tuple (plain.trees (core_var 0 ∷ c.lit (c.int (pos 2)) ∷ [])))) ∷ [])

-- f() -> {g:a(), g:b()}.
abbrev pub two_answers : ModuleTree
two_answers = function_module 0 (where_matches [] (tuple (remote g_name a_name [] ∷ remote g_name little_b_name [] ∷ []) ∷ []) no_clauses)

abbrev pub core_two_answers : CoreModuleTree
core_two_answers = core_with (core_function f_name 0 []
    (c.lets (plain.steps (step 0 (core_call g_name a_name []) ∷ step 1 (core_call g_name little_b_name []) ∷ [])) (c.tuple (plain.trees (core_var 0 ∷ core_var 1 ∷ [])))) ∷ [])

abbrev pub core_bound_before : CoreModuleTree
core_bound_before = core_with (core_function f_name 1 (Numbered 0 ∷ [])
    (core_case (core_var 0) (core_clause (pat 1 ∷ []) always
    (c.lets (plain.steps (record { vars = []; value = core_case (c.lit (c.int (pos 1))) (core_clause (pat 2 ∷ []) (are_equal 2 1) (together []) ∷ core_last badmatch_name 3 4 ∷ []) }
    ∷ step 5 (core_case (core_var 1) (core_clause (pat 6 ∷ []) always (core_var 6) ∷ core_last badmatch_name 7 8 ∷ [])) ∷ []))
    (c.tuple (plain.trees (c.lit (c.int (pos 1)) ∷ core_var 1 ∷ [])))) ∷ core_last function_clause_name 9 10 ∷ [])) ∷ [])

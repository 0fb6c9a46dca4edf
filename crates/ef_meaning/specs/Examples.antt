-- Small modules, in the source and in Core.
use Rattle.std.specs.Prelude.{ℕ, codes, List, [], ◌∷◌, ◌++◌, map}
use Rattle.ef_base.specs.declared.name.Name.{Name}
use Rattle.ef_base.specs.declared.fault.Place.{Place}
use Rattle.ef_base.specs.Texts.{Texts}
use Rattle.ef_core.specs.declared.literal.CoreVar.{CoreVar}
use Rattle.ef_core.specs.declared.literal.CoreVar.TheVariants.{Numbered}
use Rattle.ef_core.specs.Plain as plain
use Rattle.ef_core.specs.Tree as c
use Rattle.ef_core.specs.Tree.{CoreTree, DefTree, CoreModuleTree}
use Rattle.ef_forms.specs.Tree as t
use Rattle.ef_forms.specs.Tree.{Tree, FunctionTree, ModuleTree, tree, no_guard, clause, no_clauses}
use Rattle.ef_forms.specs.Plain.{trees}

-- ---- names

abbrev pub table : Texts
table = codes "m" ∷ codes "f" ∷ codes "k" ∷ codes "g" ∷ codes "h" ∷ codes "i" ∷ codes "j" ∷ codes "a" ∷ codes "l" ∷ codes "X" ∷ codes "Y"
    ∷ codes "erlang" ∷ codes "get_module_info" ∷ codes "module_info" ∷ codes "Z" ∷ codes "T" ∷ codes "A" ∷ codes "B" ∷ codes "z" ∷ codes "true" ∷ codes "=:="
    ∷ codes "match_fail" ∷ codes "function_clause" ∷ codes "badmatch"
    ∷ codes "case_clause" ∷ codes "ok" ∷ codes "error" ∷ codes "same" ∷ codes "b" ∷ codes "E" ∷ []

abbrev pub numbered : ℕ → Name
numbered n = record { index = n }

abbrev pub m_name : Name
m_name = numbered 0

abbrev pub f_name : Name
f_name = numbered 1

abbrev pub k_name : Name
k_name = numbered 2

abbrev pub g_name : Name
g_name = numbered 3

abbrev pub h_name : Name
h_name = numbered 4

abbrev pub i_name : Name
i_name = numbered 5

abbrev pub j_name : Name
j_name = numbered 6

abbrev pub a_name : Name
a_name = numbered 7

abbrev pub l_name : Name
l_name = numbered 8

abbrev pub x_name : Name
x_name = numbered 9

abbrev pub y_name : Name
y_name = numbered 10

abbrev pub erlang_name : Name
erlang_name = numbered 11

abbrev pub get_module_info_name : Name
get_module_info_name = numbered 12

abbrev pub module_info_name : Name
module_info_name = numbered 13

abbrev pub big_z_name : Name
big_z_name = numbered 14

abbrev pub t_name : Name
t_name = numbered 15

abbrev pub big_a_name : Name
big_a_name = numbered 16

abbrev pub b_name : Name
b_name = numbered 17

abbrev pub z_name : Name
z_name = numbered 18

abbrev pub true_name : Name
true_name = numbered 19

abbrev pub equal_name : Name
equal_name = numbered 20

abbrev pub match_fail_name : Name
match_fail_name = numbered 21

abbrev pub function_clause_name : Name
function_clause_name = numbered 22

abbrev pub badmatch_name : Name
badmatch_name = numbered 23

abbrev pub case_clause_name : Name
case_clause_name = numbered 24

abbrev pub ok_name : Name
ok_name = numbered 25

abbrev pub error_name : Name
error_name = numbered 26

abbrev pub same_name : Name
same_name = numbered 27

abbrev pub little_b_name : Name
little_b_name = numbered 28

abbrev pub big_e_name : Name
big_e_name = numbered 29

-- ---- the source, whose modules export f/1

abbrev pub here : Place
here = record { file = 0; line = 1; column = 1 }

abbrev pub at : t.Shape → Tree
at e = tree here e

abbrev pub var : Name → Tree
var n = at (t.var n)

abbrev pub atom : Name → Tree
atom n = at (t.atom n)

abbrev pub call : Name → List Tree → Tree
call n es = at (t.call (atom n) (trees es))

abbrev pub remote : Name → Name → List Tree → Tree
remote n o es = at (t.remote (atom n) (atom o) (trees es))

abbrev pub function : Name → ℕ → List Name → List Tree → FunctionTree
function n arity params body = record { place = here; name = n; arity = arity; clauses = clause here (trees (map var params)) no_guard (trees body) no_clauses }

abbrev pub module_with : List FunctionTree → ModuleTree
module_with fs = record {
  name = m_name;
  forms = record { place = here; form = t.export (record { place = here; name = f_name; arity = 1 } ∷ []) }
      ∷ map (λ (f : FunctionTree). record { place = here; form = t.function f }) fs;
}

-- ---- Core

abbrev pub core_var : ℕ → CoreTree
core_var n = c.var (Numbered n)

abbrev pub core_atom : Name → CoreTree
core_atom n = c.lit (c.atom n)

abbrev pub core_apply : Name → ℕ → List CoreTree → CoreTree
core_apply n arity es = c.apply (c.fun_name (record { name = n; arity = arity })) (plain.trees es)

abbrev pub core_call : Name → Name → List CoreTree → CoreTree
core_call n o es = c.call (core_atom n) (core_atom o) (plain.trees es)

abbrev pub step : ℕ → CoreTree → plain.StepTree
step n e = record { vars = Numbered n ∷ []; value = e }

abbrev pub core_function : Name → ℕ → List CoreVar → CoreTree → DefTree
core_function n arity params body = record { name = record { name = n; arity = arity }; params = params; body = body }

abbrev pub core_with : List DefTree → CoreModuleTree
core_with ds = record {
  name = m_name;
  exports = [];
  attributes = [];
  defs = ds ++ (core_function module_info_name 0 [] (core_call erlang_name get_module_info_name (core_atom m_name ∷ []))
      ∷ core_function module_info_name 1 (Numbered 0 ∷ []) (core_call erlang_name get_module_info_name (core_atom m_name ∷ core_var 0 ∷ [])) ∷ []);
}

-- ---- modules

-- f(X) -> X.
abbrev pub identity : ModuleTree
identity = module_with (function f_name 1 (x_name ∷ []) (var x_name ∷ []) ∷ [])

abbrev pub core_identity : CoreModuleTree
core_identity = core_with (core_function f_name 1 (Numbered 0 ∷ []) (core_var 0) ∷ [])

-- f(X) -> k(g:h(X)).
-- k(Y) -> g:i(Y, a).
abbrev pub two_calls : ModuleTree
two_calls = module_with (function f_name 1 (x_name ∷ []) (call k_name (remote g_name h_name (var x_name ∷ []) ∷ []) ∷ [])
    ∷ function k_name 1 (y_name ∷ []) (remote g_name i_name (var y_name ∷ atom a_name ∷ []) ∷ []) ∷ [])

abbrev pub two_calls_defs : List DefTree
two_calls_defs = core_function f_name 1 (Numbered 0 ∷ []) (c.lets (plain.steps (step 1 (core_call g_name h_name (core_var 0 ∷ [])) ∷ [])) (core_apply k_name 1 (core_var 1 ∷ [])))
    ∷ core_function k_name 1 (Numbered 0 ∷ []) (core_call g_name i_name (core_var 0 ∷ core_atom a_name ∷ [])) ∷ []

abbrev pub core_two_calls : CoreModuleTree
core_two_calls = core_with two_calls_defs

-- f(X) -> g:h(X), X.
abbrev pub dropped_value : ModuleTree
dropped_value = module_with (function f_name 1 (x_name ∷ []) (remote g_name h_name (var x_name ∷ []) ∷ var x_name ∷ []) ∷ [])

abbrev pub dropped_value_defs : List DefTree
dropped_value_defs = core_function f_name 1 (Numbered 0 ∷ []) (c.lets (plain.steps (step 1 (core_call g_name h_name (core_var 0 ∷ [])) ∷ [])) (core_var 0)) ∷ []

abbrev pub core_dropped_value : CoreModuleTree
core_dropped_value = core_with dropped_value_defs

-- f(X) -> f(X).
abbrev pub endless : ModuleTree
endless = module_with (function f_name 1 (x_name ∷ []) (call f_name (var x_name ∷ []) ∷ []) ∷ [])

abbrev pub core_endless : CoreModuleTree
core_endless = core_with (core_function f_name 1 (Numbered 0 ∷ []) (core_apply f_name 1 (core_var 0 ∷ [])) ∷ [])

-- f(X) -> g:h(X, i:j(), k()).
-- k() -> l:m().
abbrev pub ordered : ModuleTree
ordered = module_with (function f_name 1 (x_name ∷ []) (remote g_name h_name (var x_name ∷ remote i_name j_name [] ∷ call k_name [] ∷ []) ∷ [])
    ∷ function k_name 0 [] (remote l_name m_name [] ∷ []) ∷ [])

abbrev pub ordered_defs : List DefTree
ordered_defs = core_function f_name 1 (Numbered 0 ∷ []) (c.lets (plain.steps (step 1 (core_call i_name j_name []) ∷ step 2 (core_apply k_name 0 []) ∷ [])) (core_call g_name h_name (core_var 0 ∷ core_var 1 ∷ core_var 2 ∷ [])))
    ∷ core_function k_name 0 [] (core_call l_name m_name []) ∷ []

abbrev pub core_ordered : CoreModuleTree
core_ordered = core_with ordered_defs

-- f(X) -> g:h(X).
abbrev pub outside_call : ModuleTree
outside_call = module_with (function f_name 1 (x_name ∷ []) (remote g_name h_name (var x_name ∷ []) ∷ []) ∷ [])

abbrev pub core_outside_call : CoreModuleTree
core_outside_call = core_with (core_function f_name 1 (Numbered 0 ∷ []) (core_call g_name h_name (core_var 0 ∷ [])) ∷ [])

-- What an expression of Core means (Core Erlang 1.0.3, "Static semantics" and "Dynamic semantics").
use Rattle.std.specs.Prelude.{ℕ, zero, suc, ◌+◌, Bool, true, false, ◌&&◌, ◌==◌, if◌then◌else◌, codes, bytes_eq, List, [], ◌∷◌, map, length, Option, Some, None}
use Rattle.ef_base.specs.Texts.{Texts, text}
use Rattle.ef_core.specs.declared.literal.CoreVar.{CoreVar}
use Rattle.ef_core.specs.declared.literal.CoreVar.TheVariants.{Numbered, Named}
use Rattle.ef_core.specs.declared.literal.FName.{FName}
use Rattle.ef_core.specs.Tree as tree
use Rattle.ef_core.specs.Tree.{LitTree, LitTrees, lit_list, lit_list_to, lit_tuple, no_lits, more_lits, CoreTree, CoreTrees, CoreSteps, CoreClauses, PatTree, PatTrees, DefTree, CoreModuleTree, var, lit, fun_name, value_list, list, list_to, lets, case_of, call, primop, end, more, done, step, no_clauses, clause, pat_var, pat_lit, pat_tuple, pat_list, pat_list_to, alias, pat_bin, no_pats, more_pats}
use Rattle.ef_meaning.specs.Value.{Value, Values, Integer, Atom, Tuple, Nil, Cons, Local, Made, none, some, values_of, list_value, list_onto, head_and_tail, elements, with_some}
use Rattle.ef_meaning.specs.Same.{same_value}
use Rattle.ef_meaning.specs.Exception.{Error, function_clause}
use Rattle.ef_meaning.specs.Lookup.{FunctionKey, find, keys, nth}
use Rattle.ef_meaning.specs.Outside.{State}
use Rattle.ef_meaning.specs.End.{End, Gives, Raises, Waits, More, Wrong, and_then}
use Rattle.ef_meaning.specs.Called.{Side, apply, remote}

-- ---- variables and functions

-- variables and their values, the last one first
abbrev pub Vars : Type 0
Vars = List (CoreVar × Value)

abbrev pub same_var : CoreVar → CoreVar → Bool
same_var (Numbered i) (Numbered j) = i == j
same_var (Named m) (Named n) = m.index == n.index
same_var _ _ = false

abbrev pub value_at : CoreVar → Vars → Option Value
value_at x [] = None
value_at x (c ∷ cs) = if same_var c.0 x then Some c.1 else value_at x cs

-- the functions of `letrec` in scope, each by the number of its entry
abbrev pub Funs : Type 0
Funs = List (FName × ℕ)

abbrev pub entry_of : FName → Funs → Option ℕ
entry_of f [] = None
entry_of f (g ∷ gs) = if g.0.name.index == f.name.index && g.0.arity == f.arity then Some g.1 else entry_of f gs

-- a function, over the variables and the functions that it saves
pub record Code : Type 0 where
  pub params : List CoreVar
  pub body : CoreTree
  pub vars : Vars
  pub funs : Funs

-- the funs that were made, and the functions of `letrec` that were entered
pub record Store : Type 0 where
  pub made : List Code
  pub entries : List Code

abbrev pub Target : Type 0
Target = State Store

-- an expression gives a list of values
abbrev pub Answer : Type 0
Answer = End (List Value) Target

-- how a function runs at a bound
abbrev pub Level : Type 0
Level = Code → List Value → Target → Answer

-- a bound: the levels below it, the next one first; their number is the bound
abbrev pub Levels : Type 0
Levels = List Level

pub record CoreModule : Type 0 where
  pub texts : Texts
  pub functions : List (FunctionKey × Code)

-- ---- applications

-- where one value is wanted
abbrev pub single : List Value → Target → End Value Target
single (v ∷ []) s = Gives v s
single _ s = Wrong

abbrev pub one_value : End Value Target → Answer
one_value e = and_then e (λ v t. Gives (v ∷ []) t)

-- at the bound 0 no function runs
abbrev pub applied : Option Code → Levels → List Value → Target → Answer
applied None ls vs s = Wrong
applied (Some f) [] vs s = More s
applied (Some f) (l ∷ ls) vs s = l f vs s

-- the function that a local or made fun stands for
abbrev pub code_of : CoreModule → Value → Target → Option Code
code_of w (Local f a) s = find f a w.functions
code_of w (Made k a) s = nth s.store.made k
code_of w _ s = None

abbrev pub arities : List Code → List ℕ
arities fs = map (λ (f : Code). length f.params) fs

abbrev pub side : CoreModule → Side Store Level
side w = record {
  known = λ st. record { functions = keys w.functions; made = arities st.made };
  applies = λ ls f vs s. and_then (applied (code_of w f s) ls vs s) single;
}

-- ---- literals

abbrev mutual
  pub literal : Texts → LitTree → Value
  literal all (tree.int i) = Integer i
  literal all (tree.atom n) = Atom (text all n)
  literal all (lit_list ls) = literals_onto all ls Nil
  literal all (lit_list_to ls l) = literals_onto all ls (literal all l)
  literal all (lit_tuple ls) = Tuple (literals all ls)

  pub literals : Texts → LitTrees → Values
  literals all no_lits = none
  literals all (more_lits l ls) = some (literal all l) (literals all ls)

  -- a list of these before a tail
  pub literals_onto : Texts → LitTrees → Value → Value
  literals_onto all no_lits tail = tail
  literals_onto all (more_lits l ls) tail = Cons (literal all l) (literals_onto all ls tail)

-- ---- matching

abbrev pub compared : Value → Value → Vars → Option Vars
compared u v c = if same_value u v then Some c else None

module _ (all : Texts) where
  abbrev mutual
    -- whether a value matches a pattern, and the variables that result
    pub matches : PatTree → Value → Vars → Option Vars
    matches (pat_var x) v c = Some ((x, v) ∷ c)
    matches (pat_lit l) v c = compared (literal all l) v c
    matches (pat_tuple ps) v c = with_some (elements v) (λ vs. match_values ps vs c)
    matches (pat_list ps) v c = with_some (match_items ps v c) (λ r. compared Nil r.0 r.1)
    matches (pat_list_to ps p) v c = with_some (match_items ps v c) (λ r. matches p r.0 r.1)
    matches (alias x p) v c = matches p v ((x, v) ∷ c)
    matches (pat_bin ss) v c = None

    -- the front of a list matches these; its tail, and the variables that result
    pub match_items : PatTrees → Value → Vars → Option (Value × Vars)
    match_items no_pats v c = Some (v, c)
    match_items (more_pats p ps) v c = with_some (head_and_tail v) (λ h. with_some (matches p h.0 c) (λ d. match_items ps h.1 d))

    -- values match as many patterns
    pub match_values : PatTrees → Values → Vars → Option Vars
    match_values no_pats none c = Some c
    match_values (more_pats p ps) (some v vs) c = with_some (matches p v c) (λ d. match_values ps vs d)
    match_values _ _ c = None

  abbrev pub match_all : PatTrees → List Value → Vars → Option Vars
  match_all ps vs c = match_values ps (values_of vs) c

-- patterns without binaries, which are not built yet
abbrev mutual
  pub is_built : PatTree → Bool
  is_built (pat_var x) = true
  is_built (pat_lit l) = true
  is_built (pat_tuple ps) = are_built ps
  is_built (pat_list ps) = are_built ps
  is_built (pat_list_to ps p) = are_built ps && is_built p
  is_built (alias x p) = is_built p
  is_built (pat_bin ss) = false

  pub are_built : PatTrees → Bool
  are_built no_pats = true
  are_built (more_pats p ps) = is_built p && are_built ps

abbrev pub pat_count : PatTrees → ℕ
pat_count no_pats = 0
pat_count (more_pats p ps) = 1 + pat_count ps

-- patterns of so many values
abbrev pub can_match : ℕ → PatTrees → Bool
can_match n ps = pat_count ps == n && are_built ps

-- Core takes no clauses with other patterns
abbrev pub all_can_match : ℕ → CoreClauses → Bool
all_can_match n no_clauses = true
all_can_match n (clause ps g e cs) = can_match n ps && all_can_match n cs

-- ---- guards

-- nothing was shown, no item was taken, and no fun was made
abbrev pub unchanged : Target → Target → Bool
unchanged s t =
    length t.outside.events == length s.outside.events && (length t.outside.items == length s.outside.items && length t.store.made == length s.store.made)

-- a guard gives `true` or `false`
abbrev pub decided : List Value → Answer → Answer → Answer
decided (Atom a ∷ []) first second = if bytes_eq a (codes "true") then first else (if bytes_eq a (codes "false") then second else Wrong)
decided _ first second = Wrong

-- and changes nothing
abbrev pub guarded : Target → Answer → (Target → Answer) → (Target → Answer) → Answer
guarded s (Gives vs t) body others = if unchanged s t then decided vs (body t) (others t) else Wrong
guarded s (Raises k v t) body others = Wrong
guarded s (Waits t) body others = Wrong
guarded s (More t) body others = More t
guarded s Wrong body others = Wrong

abbrev pub chosen : Option Vars → (Vars → Answer) → Answer → Answer
chosen None body others = others
chosen (Some c) body others = body c

-- ---- primitive operations

abbrev pub is_function_clause : Value → Bool
is_function_clause (Tuple (some (Atom a) vs)) = bytes_eq a (codes "function_clause")
is_function_clause _ = false

-- an error; a tuple that begins with `function_clause` stands for this reason alone
abbrev pub match_fail : List Value → Target → Answer
match_fail (v ∷ []) s = Raises Error (if is_function_clause v then function_clause else v) s
match_fail _ s = Wrong

-- the other operations are not built yet
abbrev pub primitive : List ℕ → List Value → Target → Answer
primitive f vs s = if bytes_eq f (codes "match_fail") then match_fail vs s else Wrong

-- ---- expressions

abbrev pub held_value : Option Value → Target → Answer
held_value None s = Wrong
held_value (Some v) s = Gives (v ∷ []) s

-- variables take as many values
abbrev pub bind : List CoreVar → List Value → Vars → Option Vars
bind [] [] c = Some c
bind (x ∷ xs) (v ∷ vs) c = bind xs vs ((x, v) ∷ c)
bind _ _ c = None

abbrev pub given : Option Vars → Target → End Vars Target
given None s = Wrong
given (Some c) s = Gives c s

-- a function of the module by its name; a function of `letrec` is not built yet
abbrev pub function_value : Texts → FName → Option ℕ → Option Code → Target → Answer
function_value all f None (Some g) s = Gives (Local (text all f.name) f.arity ∷ []) s
function_value all f _ _ s = Wrong

module _ (w : CoreModule) where
  abbrev mutual
    pub eval : CoreTree → Levels → Vars → Funs → Target → Answer
    eval (var x) ls c fs s = held_value (value_at x c) s
    eval (lit l) ls c fs s = Gives (literal w.texts l ∷ []) s
    eval (fun_name f) ls c fs s = function_value w.texts f (entry_of f fs) (find (text w.texts f.name) f.arity w.functions) s
    eval (value_list es) ls c fs s = eval_all es ls c fs s
    eval (tree.tuple es) ls c fs s = and_then (eval_all es ls c fs s) (λ vs t. Gives (Tuple (values_of vs) ∷ []) t)
    eval (list es) ls c fs s = and_then (eval_all es ls c fs s) (λ vs t. Gives (list_value vs ∷ []) t)
    eval (list_to es e) ls c fs s = and_then (eval_all es ls c fs s) (λ vs t. and_then (and_then (eval e ls c fs t) single) (λ v u. Gives (list_onto vs v ∷ []) u))
    eval (lets ss e) ls c fs s = and_then (eval_steps ss ls c fs s) (λ d t. eval e ls d fs t)
    -- each clause can match, and some clause is chosen
    eval (case_of e cs) ls c fs s = and_then (eval e ls c fs s) (λ vs t. if all_can_match (length vs) cs then pick cs vs ls c fs (λ u. u) (λ u. Wrong) t else Wrong)
    eval (tree.apply f es) ls c fs s = and_then (and_then (eval f ls c fs s) single) (λ g t.
        and_then (eval_all es ls c fs t) (λ vs u. one_value (apply (side w) ls g vs u)))
    eval (call m f es) ls c fs s = and_then (and_then (eval m ls c fs s) single) (λ g t. and_then (and_then (eval f ls c fs t) single) (λ h u.
        and_then (eval_all es ls c fs u) (λ vs x. one_value (remote (side w) ls g h vs x))))
    eval (primop f es) ls c fs s = and_then (eval_all es ls c fs s) (λ vs t. primitive (text w.texts f) vs t)
    -- the other constructs are not built yet
    eval _ ls c fs s = Wrong

    -- the first clause whose patterns match the values and whose guard is true; `took` is what the choice does to the state,
    -- `others` what is done where no clause is chosen
    pub pick : CoreClauses → List Value → Levels → Vars → Funs → (Target → Target) → (Target → Answer) → Target → Answer
    pick no_clauses vs ls c fs took others s = others s
    pick (clause ps g e cs) vs ls c fs took others s =
        chosen (match_all w.texts ps vs c) (λ d. guarded s (eval g ls d fs s) (λ t. eval e ls d fs (took t)) (λ t. pick cs vs ls c fs took others t)) (pick cs vs ls c fs took others s)

    pub eval_all : CoreTrees → Levels → Vars → Funs → Target → Answer
    eval_all end ls c fs s = Gives [] s
    eval_all (more e es) ls c fs s = and_then (and_then (eval e ls c fs s) single) (λ v t. and_then (eval_all es ls c fs t) (λ vs u. Gives (v ∷ vs) u))

    -- a run of lets: the variables afterwards
    pub eval_steps : CoreSteps → Levels → Vars → Funs → Target → End Vars Target
    eval_steps done ls c fs s = Gives c s
    eval_steps (step xs e ss) ls c fs s = and_then (and_then (eval e ls c fs s) (λ vs t. given (bind xs vs c) t)) (λ d t. eval_steps ss ls d fs t)

-- ---- bodies of functions, and levels

abbrev pub run_body : CoreModule → Levels → CoreTree → Funs → Option Vars → Target → Answer
run_body w ls e fs None s = Wrong
run_body w ls e fs (Some c) s = eval w e ls c fs s

abbrev pub levels : CoreModule → ℕ → Levels
levels w zero = []
levels w (suc n) = (λ f vs s. run_body w (levels w n) f.body f.funs (bind f.params vs f.vars) s) ∷ levels w n

-- the meaning of an expression of Core
abbrev pub core : CoreModule → ℕ → CoreTree → Vars → Funs → Target → Answer
core w n e c fs s = eval w e (levels w n) c fs s

-- ---- modules

abbrev pub defined : Texts → DefTree → FunctionKey × Code
defined all d = (record { name = text all d.name.name; arity = d.name.arity }, record { params = d.params; body = d.body; vars = []; funs = [] })

abbrev pub module_of : Texts → CoreModuleTree → CoreModule
module_of all m = record { texts = all; functions = map (defined all) m.defs }

-- What an expression of the source means (Erlang Reference Manual, "Expressions" and "Function Declaration Syntax").
use Rattle.std.specs.Prelude.{ℕ, zero, suc, Bool, true, ◌&&◌, ◌==◌, if◌then◌else◌, codes, List, [], ◌∷◌, ◌++◌, length, map, filter, Option, Some, None}
use Rattle.ef_base.specs.Texts.{Texts, text}
use Rattle.ef_forms.specs.Tree.{Tree, Shape, Trees, Guards, Clauses, FunctionTree, ModuleTree, tree, int, atom, var, list, list_to, tuple, matching, call, remote, case_of, end, more, no_guard, or_guard, no_clauses, clause, count}
use Rattle.ef_forms.specs.Built.{functions_in}
use Rattle.ef_forms.specs.Ways.{NameSet}
use Rattle.ef_forms.specs.Sure.{clauses_sure}
use Rattle.ef_meaning.specs.Value.{Value, Integer, Atom, Tuple, Local, Made, values_of, list_value, list_onto}
use Rattle.ef_meaning.specs.Exception.{Error, function_clause, badmatch, case_clause}
use Rattle.ef_meaning.specs.Lookup.{FunctionKey, find, keys, nth}
use Rattle.ef_meaning.specs.Outside.{State}
use Rattle.ef_meaning.specs.End.{End, Gives, Raises, More, Wrong, and_then}
use Rattle.ef_meaning.specs.Called as called
use Rattle.ef_meaning.specs.Called.{Side, apply}
use Rattle.ef_meaning.specs.Match.{Bindings, value_of, matches, match_all}

-- ---- functions

pub data Body : Type 0 where
  -- clauses, over the bindings that the function saves
  by_clauses : Clauses → Bindings → Body
  -- `module_info/0` and `module_info/1`
  information : Body

pub record Function : Type 0 where
  pub arity : ℕ
  pub body : Body

-- a state, with the funs that were made
abbrev pub Source : Type 0
Source = State (List Function)

-- a value, and the bindings afterwards
abbrev pub Answer : Type 0
Answer = End (Value × Bindings) Source

-- how a function runs at a bound
abbrev pub Level : Type 0
Level = Function → List Value → Source → End Value Source

-- a bound: the levels below it, the next one first; their number is the bound
abbrev pub Levels : Type 0
Levels = List Level

pub record Module : Type 0 where
  pub texts : Texts
  -- the text of its name
  pub name : List ℕ
  pub functions : List (FunctionKey × Function)

-- ---- applications

-- at the bound 0 no function runs
abbrev pub applied : Option Function → Levels → List Value → Source → End Value Source
applied None ls vs s = Wrong
applied (Some f) [] vs s = More s
applied (Some f) (l ∷ ls) vs s = l f vs s

abbrev pub of_arity : ℕ → Option Function → Option Function
of_arity a None = None
of_arity a (Some f) = if f.arity == a then Some f else None

-- the function that a local or made fun stands for; each that is proper stands for one
abbrev pub function_of : Module → Value → Source → Option Function
function_of w (Local f a) s = find f a w.functions
function_of w (Made k a) s = of_arity a (nth s.store k)
function_of w _ s = None

abbrev pub arities : List Function → List ℕ
arities fs = map (λ (f : Function). f.arity) fs

abbrev pub side : Module → Side (List Function) Level
side w = record {
  known = λ fs. record { functions = keys w.functions; made = arities fs };
  applies = λ ls f vs s. applied (function_of w f s) ls vs s;
}

-- ---- expressions, from left to right

-- a name that is not bound is a fault
abbrev pub named : Option Value → Bindings → Source → Answer
named None b s = Wrong
named (Some v) b s = Gives (v, b) s

-- the value, under the bindings of a match
abbrev pub matched : Option Bindings → Value → Source → Answer
matched None v s = Raises Error (badmatch v) s
matched (Some b) v s = Gives (v, b) s

-- an atom that is called stands for the function of the module; one that isn't defined is a fault
abbrev pub target : Option Function → List ℕ → ℕ → Bindings → Source → Answer
target None f arity b s = Wrong
target (Some g) f arity b s = Gives (Local f arity, b) s

-- a value behind bindings
abbrev pub beside : Bindings → End Value Source → Answer
beside b e = and_then e (λ v s. Gives (v, b) s)

abbrev pub chosen : Option Bindings → (Bindings → Answer) → Answer → Answer
chosen None body others = others
chosen (Some b) body others = body b

-- the bindings from before, and beside them names of a set, as they are bound inside
abbrev pub kept : NameSet → Bindings → Bindings → Bindings
kept set inside before = before ++ filter (λ b. set b.0.index) inside

-- each clause has so many patterns; another number is a fault
abbrev pub are_wide : ℕ → Clauses → Bool
are_wide n no_clauses = true
are_wide n (clause p ps g body cs) = count ps == n && are_wide n cs

-- without a guard the body; guards are not built yet
abbrev pub guarded : Guards → Answer → Answer
guarded no_guard body = body
guarded (or_guard es gs) body = Wrong

module _ (w : Module) where
  abbrev mutual
    pub eval : Tree → Levels → Bindings → Source → Answer
    eval (tree p e) ls b s = eval_shape e ls b s

    pub eval_shape : Shape → Levels → Bindings → Source → Answer
    eval_shape (int i) ls b s = Gives (Integer i, b) s
    eval_shape (atom n) ls b s = Gives (Atom (text w.texts n), b) s
    eval_shape (var n) ls b s = named (value_of n b) b s
    eval_shape (list es) ls b s = and_then (eval_all es ls b s) (λ a t. Gives (list_value a.0, a.1) t)
    eval_shape (list_to es e) ls b s = and_then (eval_all es ls b s) (λ a t. and_then (eval e ls a.1 t) (λ d u. Gives (list_onto a.0 d.0, d.1) u))
    eval_shape (tuple es) ls b s = and_then (eval_all es ls b s) (λ a t. Gives (Tuple (values_of a.0), a.1) t)
    -- the expression, then the pattern
    eval_shape (matching p e) ls b s = and_then (eval e ls b s) (λ a t. matched (matches w.texts p a.0 a.1) a.0 t)
    -- what is called, then the arguments
    eval_shape (call f es) ls b s = and_then (eval_target f (count es) ls b s) (λ g t.
        and_then (eval_all es ls g.1 t) (λ a u. beside a.1 (apply (side w) ls g.0 a.0 u)))
    -- the module, the function, then the arguments
    eval_shape (remote m f es) ls b s = and_then (eval m ls b s) (λ g t. and_then (eval f ls g.1 t) (λ h u.
        and_then (eval_all es ls h.1 u) (λ a x. beside a.1 (called.remote (side w) ls g.0 h.0 a.0 x))))
    -- the value, then the first clause that matches; the names that every clause binds are kept
    eval_shape (case_of e cs) ls b s = and_then (eval e ls b s) (λ a t.
        and_then (if are_wide 1 cs then pick cs (a.0 ∷ []) ls a.1 (λ u. u) (λ u. Raises Error (case_clause a.0) u) t else Wrong) (λ r u. Gives (r.0, kept (clauses_sure cs) r.1 a.1) u))
    -- `_` is a fault, and other expressions are not built yet
    eval_shape _ ls b s = Wrong

    -- what is called, with so many arguments
    pub eval_target : Tree → ℕ → Levels → Bindings → Source → Answer
    eval_target (tree p (atom n)) arity ls b s = target (find (text w.texts n) arity w.functions) (text w.texts n) arity b s
    eval_target (tree p e) arity ls b s = eval_shape e ls b s

    pub eval_all : Trees → Levels → Bindings → Source → End (List Value × Bindings) Source
    eval_all end ls b s = Gives ([], b) s
    eval_all (more e es) ls b s = and_then (eval e ls b s) (λ a t. and_then (eval_all es ls a.1 t) (λ c u. Gives (a.0 ∷ c.0, c.1) u))

    -- the value of a body is that of its last expression; no body is empty
    pub eval_body : Trees → Levels → Bindings → Source → Answer
    eval_body end ls b s = Wrong
    eval_body (more e end) ls b s = eval e ls b s
    eval_body (more e (more d es)) ls b s = and_then (eval e ls b s) (λ a t. eval_body (more d es) ls a.1 t)

    -- the first clause whose patterns match; `took` is what the choice does to the state, `others` what is done where none matches
    pub pick : Clauses → List Value → Levels → Bindings → (Source → Source) → (Source → Answer) → Source → Answer
    pick no_clauses vs ls b took others s = others s
    pick (clause p ps g body cs) vs ls b took others s =
        chosen (match_all w.texts ps vs b) (λ c. guarded g (eval_body body ls c (took s))) (pick cs vs ls b took others s)

-- ---- bodies of functions, and levels

abbrev pub value_only : Answer → End Value Source
value_only e = and_then e (λ a t. Gives a.0 t)

-- `module_info` calls `erlang:get_module_info` with the name of the module before its own arguments
abbrev pub run_body : Module → Levels → Body → List Value → Source → End Value Source
run_body w ls (by_clauses cs saved) vs s = value_only (if are_wide (length vs) cs then pick w cs vs ls saved (λ t. t) (λ t. Raises Error function_clause t) s else Wrong)
run_body w ls information vs s = called.remote (side w) ls (Atom (codes "erlang")) (Atom (codes "get_module_info")) (Atom w.name ∷ vs) s

abbrev pub levels : Module → ℕ → Levels
levels w zero = []
levels w (suc n) = (λ f vs s. run_body w (levels w n) f.body vs s) ∷ levels w n

-- the meaning of an expression
abbrev pub source : Module → ℕ → Tree → Bindings → Source → Answer
source w n e b s = eval w e (levels w n) b s

-- ---- modules

abbrev pub defined : Texts → FunctionTree → FunctionKey × Function
defined all f = (record { name = text all f.name; arity = f.arity }, record { arity = f.arity; body = by_clauses f.clauses [] })

abbrev pub module_info : ℕ → FunctionKey × Function
module_info arity = (record { name = codes "module_info"; arity = arity }, record { arity = arity; body = information })

-- the functions of the source, then the two that every module has
abbrev pub module_of : Texts → ModuleTree → Module
module_of all m = record {
  texts = all;
  name = text all m.name;
  functions = map (defined all) (functions_in m.forms) ++ (module_info 0 ∷ module_info 1 ∷ []);
}

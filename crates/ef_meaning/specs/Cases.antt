-- What the lowering of functions and of matches makes of clauses.
use Rattle.std.specs.Prelude.{◌≡◌, ◌+◌, ℕ, List, [], ◌∷◌, ◌++◌, map, Some}
use Rattle.ef_base.specs.declared.name.Name.{Name}
use Rattle.ef_base.specs.Texts.{Texts, Extends}
use Rattle.ef_core.specs.declared.env.Bind.{Bind}
use Rattle.ef_core.specs.declared.literal.CoreVar.{CoreVar}
use Rattle.ef_core.specs.declared.literal.CoreVar.TheVariants.{Numbered}
use Rattle.ef_core.specs.Env.{held}
use Rattle.ef_core.specs.Plain as plain
use Rattle.ef_core.specs.Plain.{ClauseTree, StepTree}
use Rattle.ef_core.specs.Tree.{CoreTree, PatTrees, var, value_list, case_of, end, pat_var}
use Rattle.ef_forms.specs.Tree.{Clauses}
use Rattle.ef_meaning.specs.Value.{Value}
use Rattle.ef_meaning.specs.Exception.{Error, function_clause}
use Rattle.ef_meaning.specs.End.{Raises}
use Rattle.ef_meaning.specs.Core as core
use Rattle.ef_meaning.specs.Core.{CoreModule, Vars, Funs, Target, value_at}
use Rattle.ef_meaning.specs.Lowers.{params_from}
use Rattle.ef_meaning.specs.Patterns.{KeepsPicks}

-- ---- several values at once

-- these, as one expression: one stands for itself
abbrev pub together : List CoreTree → CoreTree
together [] = value_list end
together (e ∷ []) = e
together (e ∷ f ∷ es) = value_list (plain.trees (e ∷ f ∷ es))

abbrev pub variables : List CoreVar → List CoreTree
variables ys = map (λ y. var y) ys

-- ---- the last clause

-- it takes whatever values there are
abbrev pub last_clause : CoreTree → List CoreVar → CoreTree → ClauseTree
last_clause guard ys body = record { pats = plain.pats (map (λ y. pat_var y) ys); guard = guard; body = body }

-- the variables have values
abbrev pub AreSet : List CoreVar → Vars → Type 0
AreSet [] c = Unit {0}
AreSet (y ∷ ys) c = ((v : Value) × (value_at y c ≡ Some v)) × AreSet ys c

-- an expression that raises `function_clause`, wherever these variables have values
pub record FailsFunction (now : Texts) (ys : List CoreVar) (e : CoreTree) : Type 0 where
  pub raises : (w : CoreModule) → Extends now w.texts → (ls : core.Levels) (c : Vars) (fs : Funs) (t : Target) → AreSet ys c → core.eval w e ls c fs t ≡ Raises Error function_clause t

-- an expression that raises an error made of the value of this variable
pub record FailsValue (now : Texts) (z : CoreVar) (reason : Value → Value) (e : CoreTree) : Type 0 where
  pub raises : (w : CoreModule) → Extends now w.texts → (ls : core.Levels) (c : Vars) (fs : Funs) (t : Target) (v : Value) → value_at z c ≡ Some v → core.eval w e ls c fs t ≡ Raises Error (reason v) t

-- ---- clauses so far

-- the clauses that these stand for come first, and then the rest
abbrev pub KeepsFront : Texts → Clauses → Clauses → List Bind → List Name → List ClauseTree → Type 0
KeepsFront now cs rest env sure made = (later : List ClauseTree) → KeepsPicks now rest env sure later → KeepsPicks now cs env sure (made ++ later)

-- ---- functions

-- the clauses, over the parameters
abbrev pub function_case : List CoreVar → List ClauseTree → CoreTree → List CoreVar → CoreTree → CoreTree
function_case params made guard ys fails = case_of (together (variables params)) (plain.clauses (made ++ last_clause guard ys fails ∷ []))

-- ---- matches

abbrev pub names_of : List Bind → List Name
names_of bs = map (λ (b : Bind). b.name) bs

-- the environment has each of these names under its variable
abbrev pub AreHeld : List Bind → List Bind → Type 0
AreHeld env [] = Unit {0}
AreHeld env (b ∷ bs) = (held env b.name ≡ Some b.var) × AreHeld env bs

-- the same, where the names and the variables are two lists
abbrev pub HoldsNames : List Bind → List Name → List CoreVar → Type 0
HoldsNames env [] [] = Unit {0}
HoldsNames env (x ∷ xs) (y ∷ ys) = (held env x ≡ Some y) × HoldsNames env xs ys
HoldsNames env _ _ = ⊥

-- the values of the variables that the patterns bind; where they do not match, the last clause
abbrev pub match_case : CoreTree → PatTrees → CoreTree → List Bind → CoreTree → CoreVar → CoreTree → CoreTree
match_case value pats guard binds always z fails =
    case_of value (plain.clauses (record { pats = pats; guard = guard; body = together (map (λ (b : Bind). var b.var) binds) } ∷ last_clause always (z ∷ []) fails ∷ []))

-- ---- `case`

-- the clauses, over a value, and behind them the last one
abbrev pub whole_case : CoreTree → List ClauseTree → CoreTree → CoreVar → CoreTree → CoreTree
whole_case value made always z fails = case_of value (plain.clauses (made ++ last_clause always (z ∷ []) fails ∷ []))

-- the step of a `case`: its variables take the value and those of the exported names, from a number on
abbrev pub case_step : ℕ → List Name → CoreTree → List ClauseTree → CoreTree → CoreVar → CoreTree → StepTree
case_step n sure value made always z fails = record { vars = Numbered n ∷ params_from (n + 1) sure; value = whole_case value made always z fails }

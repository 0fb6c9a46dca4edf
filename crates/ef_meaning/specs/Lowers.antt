-- What the lowering of a part promises.
use Rattle.std.specs.Prelude.{◌≡◌, ◌<◌, ◌≤◌, ◌+◌, ◌⊎◌, ℕ, List, [], ◌∷◌, ◌++◌, length, map, codes, Option, Some, None}
use Rattle.ef_base.specs.declared.name.Name.{Name}
use Rattle.ef_base.specs.Texts.{Texts, Extends, text}
use Rattle.ef_core.specs.declared.env.Bind.{Bind}
use Rattle.ef_core.specs.declared.literal.CoreVar.{CoreVar}
use Rattle.ef_core.specs.declared.literal.CoreVar.TheVariants.{Numbered, Named}
use Rattle.ef_core.specs.declared.literal.FName.{FName}
use Rattle.ef_core.specs.Env.{bind, held}
use Rattle.ef_core.specs.LetForm.{IsSimple}
use Rattle.ef_core.specs.Plain as plain
use Rattle.ef_core.specs.Plain.{StepTree, steps}
use Rattle.ef_core.specs.Tree as c
use Rattle.ef_core.specs.Tree.{CoreTree, DefTree, CoreModuleTree}
use Rattle.ef_forms.specs.Tree.{Tree, Clauses, FunctionTree, ModuleTree}
use Rattle.ef_forms.specs.Built.{functions_in}
use Rattle.ef_forms.specs.Plain.{trees}
use Rattle.ef_meaning.specs.Value.{Value}
use Rattle.ef_meaning.specs.Lookup.{find, keys}
use Rattle.ef_meaning.specs.End.{End, Gives, and_then}
use Rattle.ef_meaning.specs.Called.{apply}
use Rattle.ef_meaning.specs.Match.{Bindings, value_of}
use Rattle.ef_meaning.specs.Source as source
use Rattle.ef_meaning.specs.Source.{Module, Source, by_clauses}
use Rattle.ef_meaning.specs.Core as core
use Rattle.ef_meaning.specs.Core.{CoreModule, Vars, Funs, Code, Target, value_at, entry_of, literal}
use Rattle.ef_meaning.specs.Keeps.{Begins, Keeps}

-- ---- names and variables

abbrev pub SameAt : Option CoreVar → Option Value → Vars → Type 0
SameAt None None c = Unit {0}
SameAt (Some y) (Some v) c = value_at y c ≡ Some v
SameAt _ _ c = ⊥

-- the variables of the environment hold the values of its names, and no other name is bound
pub record Describes (env : List Bind) (b : Bindings) (c : Vars) : Type 0 where
  pub each : (x : Name) → SameAt (held env x) (value_of x b) c

-- the variable was drawn before the one of this number, or has a name of its own
abbrev pub IsBelow : ℕ → CoreVar → Type 0
IsBelow n (Numbered i) = i < n
IsBelow n (Named m) = Unit {0}

abbrev pub AreBelow : ℕ → List Bind → Type 0
AreBelow n [] = Unit {0}
AreBelow n (b ∷ bs) = IsBelow n b.var × AreBelow n bs

-- the variables that were drawn before are as they were
pub record Agree (n : ℕ) (c d : Vars) : Type 0 where
  pub each : (y : CoreVar) → IsBelow n y → value_at y d ≡ value_at y c

-- ---- funs, and states that are related

-- a fun expression, with the names of its place, and the Core fun that stands for it
pub record Entry : Type 0 where
  pub clauses : Clauses
  pub env : List Bind
  pub params : List CoreVar
  pub body : CoreTree

abbrev pub In : Entry → List Entry → Type 0
In e [] = ⊥
In e (x ∷ xs) = (e ≡ x) ⊎ In e xs

abbrev pub Includes : List Entry → List Entry → Type 0
Includes [] all = Unit {0}
Includes (e ∷ es) all = In e all × Includes es all

-- the functions of `letrec` in scope hide no function of the module
pub record HidesNone (cw : CoreModule) (fs : Funs) : Type 0 where
  pub each : (f : FName) (g : Code) → find (text cw.texts f.name) f.arity cw.functions ≡ Some g → entry_of f fs ≡ None

-- two made funs of one entry, over bindings and variables that hold them
pub record SameFun (cw : CoreModule) (all : List Entry) (g : source.Function) (c : Code) : Type 0 where
  pub entry : Entry
  pub known : In entry all
  pub saved : Bindings
  pub source : g ≡ record { arity = length entry.params; body = by_clauses entry.clauses saved }
  pub core : c ≡ record { params = entry.params; body = entry.body; vars = c.vars; funs = c.funs }
  pub holds : Describes entry.env saved c.vars
  pub hides : HidesNone cw c.funs

abbrev pub SameFuns : CoreModule → List Entry → List source.Function → List Code → Type 0
SameFuns cw all [] [] = Unit {0}
SameFuns cw all (g ∷ gs) (c ∷ cs) = SameFun cw all g c × SameFuns cw all gs cs
SameFuns cw all _ _ = ⊥

-- two states that agree outside, in which these functions of `letrec` were entered, and whose funs are of these entries
pub record Related (cw : CoreModule) (all : List Entry) (en : List Code) (s : Source) (t : Target) : Type 0 where
  pub outside : s.outside ≡ t.outside
  pub entered : Begins en t.store.entries
  pub funs : SameFuns cw all s.store t.store.made

-- ---- what is kept

abbrev pub Alike : Value → Value → Type 0
Alike u v = u ≡ v

-- one value, and it is this one
abbrev pub SameValue : Value → List Value → Type 0
SameValue u vs = vs ≡ u ∷ []

-- an application of any fun value is kept at this bound
pub record CallsKept (w : Module) (cw : CoreModule) (all : List Entry) (n : ℕ) : Type 0 where
  pub each : (en : List Code) (f : Value) (vs : List Value) (s : Source) (t : Target) → Related cw all en s t →
      Keeps Alike (Related cw all en) n (apply (source.side w) (source.levels w n) f vs s) (λ m. apply (core.side cw) (core.levels cw m) f vs t)

-- the body of a function is kept at this bound, over what it saves
abbrev pub BodyKept : Module → CoreModule → List Entry → ℕ → source.Body → List CoreVar → CoreTree → Vars → Funs → Type 0
BodyKept w cw all n f params body c fs = (en : List Code) (vs : List Value) (s : Source) (t : Target) → Related cw all en s t → length vs ≡ length params →
    Keeps SameValue (Related cw all en) n (source.run_body w (source.levels w n) f vs s) (λ m. core.run_body cw (core.levels cw m) body fs (core.bind params vs c) t)

abbrev pub EntryKept : Module → CoreModule → List Entry → ℕ → Entry → Type 0
EntryKept w cw all n e = (b : Bindings) (c : Vars) (fs : Funs) → Describes e.env b c → HidesNone cw fs → BodyKept w cw all n (by_clauses e.clauses b) e.params e.body c fs

abbrev pub EntriesKept : Module → CoreModule → List Entry → ℕ → List Entry → Type 0
EntriesKept w cw all n [] = Unit {0}
EntriesKept w cw all n (e ∷ es) = EntryKept w cw all n e × EntriesKept w cw all n es

-- two modules over one table of names, which the given one begins, with functions of the same names and arities
pub record Worlds (now : Texts) (w : Module) (cw : CoreModule) : Type 0 where
  pub begins : Extends now w.texts
  pub texts : cw.texts ≡ w.texts
  pub functions : keys cw.functions ≡ keys w.functions

-- what holds in all worlds where the calls are kept up to a bound, and these entries are known
abbrev pub Everywhere : Texts → List Entry → (Module → CoreModule → List Entry → ℕ → Type 0) → Type 0
Everywhere now made P = (w : Module) (cw : CoreModule) → Worlds now w cw → (all : List Entry) → Includes made all → (n : ℕ) → ((k : ℕ) → k ≤ n → CallsKept w cw all k) → P w cw all n

-- the same, from all related states
abbrev pub InWorlds : Texts → List Entry → (Module → CoreModule → (Source → Target → Type 0) → ℕ → Funs → Source → Target → Type 0) → Type 0
InWorlds now made P = Everywhere now made (λ w cw all n. (en : List Code) (fs : Funs) (s : Source) (t : Target) → HidesNone cw fs → Related cw all en s t → P w cw (Related cw all en) n fs s t)

-- the bodies of these entries are kept
abbrev pub Bodies : Texts → List Entry → Type 0
Bodies now made = Everywhere now made (λ w cw all n. EntriesKept w cw all n made)

-- ---- expressions

-- steps, and then the values of a tree, with the variables afterwards
abbrev pub valued : CoreModule → List StepTree → CoreTree → core.Levels → Vars → Funs → Target → End (List Value × Vars) Target
valued cw added value ls c fs t = and_then (core.eval_steps cw (steps added) ls c fs t) (λ d u. and_then (core.eval cw value ls d fs u) (λ vs x. Gives (vs, d) x))

-- afterwards there is one value, the new environment describes the new bindings, and the earlier variables are as they were
pub record After (n0 : ℕ) (c : Vars) (env1 : List Bind) (a : Value × Bindings) (r : List Value × Vars) : Type 0 where
  pub value : r.0 ≡ a.0 ∷ []
  pub names : Describes env1 a.1 r.1
  pub agree : Agree n0 c r.1

-- a variable or a literal has this value
abbrev pub IsValue : Texts → CoreTree → Value → Vars → Type 0
IsValue all (c.var x) v d = value_at x d ≡ Some v
IsValue all (c.lit l) v d = literal all l ≡ v
IsValue all _ v d = ⊥

abbrev pub AreValues : Texts → List CoreTree → List Value → Vars → Type 0
AreValues all [] [] d = Unit {0}
AreValues all (e ∷ es) (v ∷ vs) d = IsValue all e v d × AreValues all es vs d
AreValues all _ _ d = ⊥

-- a variable that was drawn before, or a literal
abbrev pub IsDrawn : ℕ → CoreTree → Type 0
IsDrawn n (c.var x) = IsBelow n x
IsDrawn n (c.lit l) = Unit {0}
IsDrawn n _ = ⊥

abbrev pub AreDrawn : ℕ → List CoreTree → Type 0
AreDrawn n [] = Unit {0}
AreDrawn n (e ∷ es) = IsDrawn n e × AreDrawn n es

-- the same for arguments, which stand behind all the steps
pub record AfterAll (all : Texts) (n0 : ℕ) (c : Vars) (env1 : List Bind) (arguments : List CoreTree) (a : List Value × Bindings) (d : Vars) : Type 0 where
  pub values : AreValues all arguments a.0 d
  pub names : Describes env1 a.1 d
  pub agree : Agree n0 c d

-- the steps and then the arguments keep the meaning of expressions, one after another
pub record KeepsAll (now : Texts) (es : List Tree) (n0 : ℕ) (env0 : List Bind) (added : List StepTree) (n1 : ℕ) (env1 : List Bind) (arguments : List CoreTree) : Type 0 where
  pub drawn : n0 ≤ n1
  pub below : AreBelow n1 env1
  pub arguments_drawn : AreDrawn n1 arguments
  pub made : List Entry
  pub bodies : Bodies now made
  pub keeps : (b : Bindings) (c : Vars) → Describes env0 b c → InWorlds now made (λ w cw Q n fs s t.
      Keeps (AfterAll w.texts n0 c env1 arguments) Q n (source.eval_all w (trees es) (source.levels w n) b s) (λ m. core.eval_steps cw (steps added) (core.levels cw m) c fs t))

-- the steps and then the value keep the meaning of an expression; a value that is an argument does so too
pub record KeepsExpr (now : Texts) (e : Tree) (n0 : ℕ) (env0 : List Bind) (added : List StepTree) (n1 : ℕ) (env1 : List Bind) (value : CoreTree) : Type 0 where
  pub drawn : n0 ≤ n1
  pub below : AreBelow n1 env1
  pub made : List Entry
  pub bodies : Bodies now made
  pub keeps : (b : Bindings) (c : Vars) → Describes env0 b c → InWorlds now made (λ w cw Q n fs s t.
      Keeps (After n0 c env1) Q n (source.source w n e b s) (λ m. valued cw added value (core.levels cw m) c fs t))
  pub argument : IsSimple value → KeepsAll now (e ∷ []) n0 env0 added n1 env1 (value ∷ [])

-- the same for a body
pub record KeepsLast (now : Texts) (es : List Tree) (n0 : ℕ) (env0 : List Bind) (added : List StepTree) (n1 : ℕ) (env1 : List Bind) (value : CoreTree) : Type 0 where
  pub drawn : n0 ≤ n1
  pub below : AreBelow n1 env1
  pub made : List Entry
  pub bodies : Bodies now made
  pub keeps : (b : Bindings) (c : Vars) → Describes env0 b c → InWorlds now made (λ w cw Q n fs s t.
      Keeps (After n0 c env1) Q n (source.eval_body w (trees es) (source.levels w n) b s) (λ m. valued cw added value (core.levels cw m) c fs t))

-- ---- bodies and functions

abbrev pub AllBound : List Name → Bindings → List Value → Type 0
AllBound [] b [] = Unit {0}
AllBound (x ∷ xs) b (v ∷ vs) = (value_of x b ≡ Some v) × AllBound xs b vs
AllBound _ b _ = ⊥

-- the value, and then those of the exported names
pub record Exports (sure : List Name) (a : Value × Bindings) (vs : List Value) : Type 0 where
  pub names : List Value
  pub is : vs ≡ a.0 ∷ names
  pub bound : AllBound sure a.1 names

-- a Core expression keeps the meaning of a body, and gives its value and the exported names
pub record KeepsBody (now : Texts) (es : List Tree) (env0 : List Bind) (sure : List Name) (body : CoreTree) : Type 0 where
  pub made : List Entry
  pub bodies : Bodies now made
  pub keeps : (b : Bindings) (c : Vars) → Describes env0 b c → InWorlds now made (λ w cw Q n fs s t.
      Keeps (Exports sure) Q n (source.eval_body w (trees es) (source.levels w n) b s) (λ m. core.core cw m body c fs t))

-- a Core function keeps the meaning of a function of the module
pub record KeepsFunction (now : Texts) (f : source.Body) (params : List CoreVar) (body : CoreTree) : Type 0 where
  pub made : List Entry
  pub bodies : Bodies now made
  pub keeps : Everywhere now made (λ w cw all n. BodyKept w cw all n f params body [] [])

-- so many variables as names, from this number on
abbrev pub params_from : ℕ → List Name → List CoreVar
params_from n [] = []
params_from n (x ∷ xs) = Numbered n ∷ params_from (n + 1) xs

abbrev pub env_from : ℕ → List Name → List Bind
env_from n [] = []
env_from n (x ∷ xs) = bind x (Numbered n) ∷ env_from (n + 1) xs

-- steps and then a value, as one expression
abbrev pub finished : List StepTree → CoreTree → CoreTree
finished [] value = value
finished (s ∷ ss) value = c.lets (steps (s ∷ ss)) value

-- a Core definition keeps the meaning of a function, under its name
pub record KeepsDefinition (now : Texts) (f : FunctionTree) (d : DefTree) : Type 0 where
  pub name : d.name.name ≡ f.name
  pub arity : d.name.arity ≡ f.arity
  pub parameters : length d.params ≡ f.arity
  pub keeps : KeepsFunction now (by_clauses f.clauses []) d.params d.body

abbrev pub KeepDefinitions : Texts → List FunctionTree → List DefTree → Type 0
KeepDefinitions now [] [] = Unit {0}
KeepDefinitions now (f ∷ fs) (d ∷ ds) = KeepsDefinition now f d × KeepDefinitions now fs ds
KeepDefinitions now _ _ = ⊥

-- `module_info` of a module of this name: with these parameters, which it passes on
pub record IsInformation (all : Texts) (name : Name) (params : List CoreVar) (d : DefTree) : Type 0 where
  pub erlang : Name
  pub get_module_info : Name
  pub erlang_text : text all erlang ≡ codes "erlang"
  pub get_module_info_text : text all get_module_info ≡ codes "get_module_info"
  pub name_text : text all d.name.name ≡ codes "module_info"
  pub arity : d.name.arity ≡ length params
  pub parameters : d.params ≡ params
  pub body : d.body ≡ c.call (c.lit (c.atom erlang)) (c.lit (c.atom get_module_info)) (plain.trees (c.lit (c.atom name) ∷ map (λ x. c.var x) params))

-- the definitions of a Core module keep the meaning of the functions of a source module, and then come the two of `module_info`
pub record KeepsFunctions (now : Texts) (m : ModuleTree) (t : CoreModuleTree) : Type 0 where
  pub functions : List DefTree
  pub information : DefTree
  pub item : DefTree
  pub definitions : t.defs ≡ functions ++ (information ∷ item ∷ [])
  pub keep : KeepDefinitions now (functions_in m.forms) functions
  pub is_information : IsInformation now m.name [] information
  pub is_item : IsInformation now m.name (Numbered 0 ∷ []) item

-- ---- what is put behind steps that are there

pub record Appends (now : Texts) (e : Tree) (n0 : ℕ) (env0 : List Bind) (old : List StepTree) (n1 : ℕ) (env1 : List Bind) (new : List StepTree) (value : CoreTree) : Type 0 where
  pub added : List StepTree
  pub steps : new ≡ old ++ added
  pub keeps : KeepsExpr now e n0 env0 added n1 env1 value

pub record AppendsAll (now : Texts) (es : List Tree) (n0 : ℕ) (env0 : List Bind) (old : List StepTree) (n1 : ℕ) (env1 : List Bind) (new : List StepTree) (arguments : List CoreTree) : Type 0 where
  pub added : List StepTree
  pub steps : new ≡ old ++ added
  pub keeps : KeepsAll now es n0 env0 added n1 env1 arguments

pub record AppendsLast (now : Texts) (es : List Tree) (n0 : ℕ) (env0 : List Bind) (old : List StepTree) (n1 : ℕ) (env1 : List Bind) (new : List StepTree) (value : CoreTree) : Type 0 where
  pub added : List StepTree
  pub steps : new ≡ old ++ added
  pub keeps : KeepsLast now es n0 env0 added n1 env1 value

-- Runs of an exported function, and when a Core module keeps the meaning of a source module.
use Rattle.std.specs.Prelude.{◌≡◌, ◌≢◌, ◌⊎◌, ◌≤◌, ℕ, true, codes, List, [], ◌∷◌, length}
use Rattle.ef_base.specs.Texts.{Texts, text}
use Rattle.ef_forms.specs.Tree.{ModuleTree}
use Rattle.ef_forms.specs.Built.{exports_in}
use Rattle.ef_forms.specs.declared.tables.FunctionName.{FunctionName}
use Rattle.ef_core.specs.Tree.{CoreModuleTree}
use Rattle.ef_meaning.specs.Value.{Value, Local, values_of}
use Rattle.ef_meaning.specs.Lookup.{keys}
use Rattle.ef_meaning.specs.Proper.{are_proper}
use Rattle.ef_meaning.specs.Outside.{Item, Event, State}
use Rattle.ef_meaning.specs.End.{End, Gives, Raises, Waits, More, Wrong}
use Rattle.ef_meaning.specs.Called.{apply}
use Rattle.ef_meaning.specs.Keeps.{Begins}
use Rattle.ef_meaning.specs.Source as source
use Rattle.ef_meaning.specs.Core as core

-- a function is applied to arguments, with an own process and what the outside hands in
pub record Run : Type 0 where
  pub name : List ℕ
  pub arguments : List Value
  pub own : ℕ
  pub items : List Item

-- the mailbox is empty, and nothing was shown
abbrev pub start : {F : Type 0} → Run → F → State F
start r f = record { outside = record { own = r.own; mailbox = []; items = r.items; events = [] }; store = f }

-- the source at a bound, from no funs
abbrev pub source_run : Texts → ModuleTree → Run → ℕ → End Value source.Source
source_run all m r n = let w = source.module_of all m in
    apply (source.side w) (source.levels w n) (Local r.name (length r.arguments)) r.arguments (start r [])

-- Core at a bound, from no funs
abbrev pub core_run : Texts → CoreModuleTree → Run → ℕ → End Value core.Target
core_run all m r n = let w = core.module_of all m in
    apply (core.side w) (core.levels w n) (Local r.name (length r.arguments)) r.arguments (start r (record { made = []; entries = [] }))

-- ---- what a run shows

pub record Shown : Type 0 where
  pub events : List Event
  pub mailbox : List Value

abbrev pub shown_of : {F : Type 0} → State F → Shown
shown_of s = record { events = s.outside.events; mailbox = s.outside.mailbox }

-- an end, without what a meaning keeps for itself
abbrev pub shown : {A F : Type 0} → End A (State F) → End A Shown
shown (Gives a s) = Gives a (shown_of s)
shown (Raises c v s) = Raises c v (shown_of s)
shown (Waits s) = Waits (shown_of s)
shown (More s) = More (shown_of s)
shown Wrong = Wrong

-- the events begin with these
abbrev pub ShowsOn : {A : Type 0} → List Event → End A Shown → Type 0
ShowsOn xs (Gives a s) = Begins xs s.events
ShowsOn xs (Raises c v s) = Begins xs s.events
ShowsOn xs (Waits s) = Begins xs s.events
ShowsOn xs (More s) = Begins xs s.events
ShowsOn xs Wrong = ⊥

-- the same end, events and mailbox; where the one goes on, its events are a beginning of the other's
abbrev pub Agrees : {A : Type 0} → End A Shown → End A Shown → Type 0
Agrees (More s) f = ShowsOn s.events f
Agrees e f = f ≡ e

-- for each bound of the one there is a bound of the other
abbrev pub Follows : {A : Type 0} → (ℕ → End A Shown) → (ℕ → End A Shown) → Type 0
Follows S C = (n : ℕ) → (m : ℕ) × Agrees (S n) (C m)

-- ---- modules

-- one of these has this name and number of parameters
abbrev pub Lists : Texts → List FunctionName → List ℕ → ℕ → Type 0
Lists all [] f a = ⊥
Lists all (g ∷ gs) f a = ((text all g.name ≡ f) × (g.arity ≡ a)) ⊎ Lists all gs f a

-- the module exports the function: by its own attribute, or as each module does
abbrev pub Exports : Texts → ModuleTree → List ℕ → ℕ → Type 0
Exports all m f a = Lists all (exports_in m.forms) f a ⊎ ((f ≡ codes "module_info") × (a ≤ 1))

-- an exported function, and proper arguments in their number
pub record IsRun (all : Texts) (m : ModuleTree) (r : Run) : Type 0 where
  pub exported : Exports all m r.name (length r.arguments)
  pub proper : are_proper (record { functions = keys (source.module_of all m).functions; made = [] }) (values_of r.arguments) ≡ true

-- each run of the source has a meaning, and on it the two show the same, and each goes on where the other does
pub record KeepsMeaning (all : Texts) (m : ModuleTree) (t : CoreModuleTree) : Type 0 where
  pub meant : (r : Run) → IsRun all m r → (n : ℕ) → source_run all m r n ≢ Wrong
  pub source_first : (r : Run) → IsRun all m r → Follows (λ n. shown (source_run all m r n)) (λ n. shown (core_run all t r n))
  pub core_first : (r : Run) → IsRun all m r → Follows (λ n. shown (core_run all t r n)) (λ n. shown (source_run all m r n))

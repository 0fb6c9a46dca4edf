-- The laws of both meanings, as statements.
use Rattle.std.specs.Prelude.{◌≡◌, ◌≢◌, ℕ, ◌≤◌, true}
use Rattle.std.specs.Cmp.{IsTotalOrder}
use Rattle.std.specs.declared.cmp.Ordering.TheVariants.{Equal}
use Rattle.ef_base.specs.Texts.{Texts}
use Rattle.ef_forms.specs.Tree.{Tree, ModuleTree}
use Rattle.ef_forms.specs.Built.{IsBuilt}
use Rattle.ef_core.specs.Tree.{CoreTree, CoreModuleTree}
use Rattle.ef_meaning.specs.Value.{Value}
use Rattle.ef_meaning.specs.Same.{same_value}
use Rattle.ef_meaning.specs.Order.{compare}
use Rattle.ef_meaning.specs.End.{Wrong}
use Rattle.ef_meaning.specs.Bound.{IsBoundModule}
use Rattle.ef_meaning.specs.Lowers.{KeepsFunctions}
use Rattle.ef_meaning.specs.Runs.{Run, IsRun, KeepsMeaning, source_run}
use Rattle.ef_meaning.specs.Keeps.{Ahead, Extends}
use Rattle.ef_meaning.specs.Match.{Bindings}
use Rattle.ef_meaning.specs.Source as source
use Rattle.ef_meaning.specs.Core as core

-- values compare equal exactly where they are the same
pub record ValuesCompare : Type 0 where
  pub same : (u v : Value) → same_value u v ≡ true → u ≡ v
  pub itself : (v : Value) → same_value v v ≡ true

-- values have a total order, in which two are equal exactly where they are the same
pub record ValuesOrdered : Type 0 where
  pub total : IsTotalOrder compare
  pub same : (u v : Value) → compare u v ≡ Equal → u ≡ v
  pub itself : (v : Value) → compare v v ≡ Equal

-- an expression only adds events
pub record EventsGrow : Type 0 where
  pub of_source : (w : source.Module) (n : ℕ) (e : Tree) (b : Bindings) (s : source.Source) → Ahead s.outside.events (source.source w n e b s)
  pub of_core : (w : core.CoreModule) (n : ℕ) (e : CoreTree) (c : core.Vars) (fs : core.Funs) (s : core.Target) → Ahead s.outside.events (core.core w n e c fs s)

-- a larger bound keeps an end, and extends the events of what goes on
pub record BoundsExtend : Type 0 where
  pub of_source : (w : source.Module) (m n : ℕ) → m ≤ n → (e : Tree) (b : Bindings) (s : source.Source) → Extends (source.source w m e b s) (source.source w n e b s)
  pub of_core : (w : core.CoreModule) (m n : ℕ) → m ≤ n → (e : CoreTree) (c : core.Vars) (fs : core.Funs) (s : core.Target) → Extends (core.core w m e c fs s) (core.core w n e c fs s)

-- a run of a built module whose names are bound is never without meaning
pub record SourceMeant : Type 0 where
  pub each : (all : Texts) (m : ModuleTree) → IsBuilt all m → IsBoundModule all m → (r : Run) → IsRun all m r → (n : ℕ) → source_run all m r n ≢ Wrong

-- a Core module whose functions keep the meaning of those of a source module keeps its meaning
pub record ModulesKeep : Type 0 where
  pub each : (all : Texts) (m : ModuleTree) (t : CoreModuleTree) → KeepsFunctions all m t → IsBuilt all m → IsBoundModule all m → KeepsMeaning all m t

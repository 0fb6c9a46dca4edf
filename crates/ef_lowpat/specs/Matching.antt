-- What the lowering of a pattern keeps, whatever it is matched with: a value, the front of a list, or several values.
use Rattle.std.specs.Prelude.{ℕ, ◌≡◌, ◌≤◌, Bool, true, false, List, ◌++◌, Option, Some, None}
use Rattle.ef_base.specs.declared.name.Name.{Name}
use Rattle.ef_base.specs.Texts.{Texts}
use Rattle.ef_core.specs.declared.env.Bind.{Bind}
use Rattle.ef_core.specs.declared.literal.CoreVar.{CoreVar}
use Rattle.ef_core.specs.declared.lowered.Test.{Test}
use Rattle.ef_core.specs.Env.{held}
use Rattle.ef_core.specs.Plain.{pats}
use Rattle.ef_core.specs.Tree.{PatTree}
use Rattle.ef_forms.specs.Plain.{trees}
use Rattle.ef_forms.specs.Tree.{Tree}
use Rattle.ef_meaning.specs.Value.{Value}
use Rattle.ef_meaning.specs.Match.{Bindings}
use Rattle.ef_meaning.specs.Match as source
use Rattle.ef_meaning.specs.Core.{Vars, value_at}
use Rattle.ef_meaning.specs.Core as core
use Rattle.ef_meaning.specs.Lowers.{Agree, AreBelow, Describes}
use Rattle.ef_meaning.specs.Patterns.{HaveValues, TestsBelow, verdict}

-- what a match gives on both sides: the bindings and the variables, and maybe a value that is left
pub record Kind : Type 1 where
  pub of_source : Type 0
  pub of_core : Type 0
  pub bindings : of_source → Bindings
  pub vars : of_core → Vars
  pub alike : of_source → of_core → Type 0

abbrev pub whole : Kind
whole = record { of_source = Bindings; of_core = Vars; bindings = λ b. b; vars = λ c. c; alike = λ b c. Unit {0} }

-- the front of a list: its tail is left
abbrev pub front : Kind
front = record { of_source = Value × Bindings; of_core = Value × Vars; bindings = λ r. r.1; vars = λ r. r.1; alike = λ r q. r.0 ≡ q.0 }

-- both match, all tests hold, and what they give is alike; or the source does not, and Core does not or a test fails
abbrev pub SameBy : (k : Kind) → List Bind → List Test → Option k.of_source → Option k.of_core → Type 0
SameBy k env tests None None = Unit {0}
SameBy k env tests None (Some q) = verdict tests (k.vars q) ≡ Some false
SameBy k env tests (Some r) None = ⊥
SameBy k env tests (Some r) (Some q) = (verdict tests (k.vars q) ≡ Some true) × Describes env (k.bindings r) (k.vars q) × k.alike r q

-- the variable of each name has a value
pub record HaveHeld (env : List Bind) (c : Vars) : Type 0 where
  pub each : (x : Name) (y : CoreVar) → held env x ≡ Some y → (v : Value) × (value_at y c ≡ Some v)

-- the variables have values, and so the tests have a verdict
pub record AreDecided (env binds : List Bind) (tests : List Test) (d : Vars) : Type 0 where
  pub held : HaveHeld env d
  pub values : HaveValues binds d
  pub verdict : (b : Bool) × (verdict tests d ≡ Some b)

-- a match of Core and tests keep a match of the source, under names that are bound; they bind more
pub record KeepsMatch (k : Kind) (A : Type 0) (n0 : ℕ) (env : List Bind) (tests : List Test) (n1 : ℕ) (binds : List Bind) (from : Texts → A → Bindings → Option k.of_source) (to : Texts → A → Vars → Option k.of_core) : Type 0 where
  pub drawn : n0 ≤ n1
  pub below : AreBelow n1 (env ++ binds)
  pub tests_below : TestsBelow n1 tests
  pub agree : (all : Texts) (v : A) (c : Vars) (q : k.of_core) → to all v c ≡ Some q → Agree n0 c (k.vars q)
  pub decided : (all : Texts) (v : A) (c : Vars) (q : k.of_core) → HaveHeld env c → to all v c ≡ Some q → AreDecided (env ++ binds) binds tests (k.vars q)
  pub keeps : (all : Texts) (v : A) (b : Bindings) (c : Vars) → Describes env b c → SameBy k (env ++ binds) tests (from all v b) (to all v c)

-- one pattern
abbrev pub KeepsPattern : Tree → ℕ → List Bind → PatTree → List Test → ℕ → List Bind → Type 0
KeepsPattern e n0 env made tests n1 binds =
    KeepsMatch whole Value n0 env tests n1 binds (λ all v b. source.matches all e v b) (λ all v c. core.matches all made v c)

-- patterns of the front of a list
abbrev pub KeepsItems : List Tree → ℕ → List Bind → List PatTree → List Test → ℕ → List Bind → Type 0
KeepsItems es n0 env made tests n1 binds =
    KeepsMatch front Value n0 env tests n1 binds (λ all v b. source.match_items all (trees es) v b) (λ all v c. core.match_items all (pats made) v c)

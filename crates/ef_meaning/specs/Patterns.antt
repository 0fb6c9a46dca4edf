-- What the lowering of patterns, of tests and of clauses promises.
use Rattle.std.specs.Prelude.{◌≡◌, ◌≤◌, ◌&&◌, ℕ, Bool, true, false, List, [], ◌∷◌, ◌++◌, Option, Some, None}
use Rattle.ef_base.specs.declared.name.Name.{Name}
use Rattle.ef_base.specs.Texts.{Texts, Extends}
use Rattle.ef_core.specs.declared.env.Bind.{Bind}
use Rattle.ef_core.specs.declared.lowered.Test.{Test}
use Rattle.ef_core.specs.Plain.{ClauseTree, clauses}
use Rattle.ef_core.specs.Tree.{CoreTree, PatTrees}
use Rattle.ef_forms.specs.Tree.{Trees, Clauses, count}
use Rattle.ef_meaning.specs.Value.{Value, truth}
use Rattle.ef_meaning.specs.Same.{same_value}
use Rattle.ef_meaning.specs.End.{Gives}
use Rattle.ef_meaning.specs.Match.{Bindings}
use Rattle.ef_meaning.specs.Match as source_match
use Rattle.ef_meaning.specs.Source as source
use Rattle.ef_meaning.specs.Core as core
use Rattle.ef_meaning.specs.Core.{CoreModule, Vars, Funs, Target, value_at}
use Rattle.ef_meaning.specs.Keeps.{Keeps}
use Rattle.ef_meaning.specs.Lowers.{Describes, IsBelow, AreBelow, Agree, Entry, Bodies, InWorlds, Exports}

-- ---- tests

abbrev pub are_same : Option Value → Option Value → Option Bool
are_same (Some u) (Some v) = Some (same_value u v)
are_same _ _ = None

abbrev pub both_hold : Option Bool → Option Bool → Option Bool
both_hold (Some a) (Some b) = Some (a && b)
both_hold _ _ = None

-- whether all hold, where all their variables have values
abbrev pub verdict : List Test → Vars → Option Bool
verdict [] c = Some true
verdict (t ∷ ts) c = both_hold (are_same (value_at t.left c) (value_at t.right c)) (verdict ts c)

abbrev pub TestsBelow : ℕ → List Test → Type 0
TestsBelow n [] = Unit {0}
TestsBelow n (t ∷ ts) = IsBelow n t.left × IsBelow n t.right × TestsBelow n ts

-- the variables of the environment have values
abbrev pub HaveValues : List Bind → Vars → Type 0
HaveValues [] c = Unit {0}
HaveValues (b ∷ bs) c = ((v : Value) × (value_at b.var c ≡ Some v)) × HaveValues bs c

-- an expression that gives what the tests say, and does nothing else
pub record IsGuard (now : Texts) (tests : List Test) (guard : CoreTree) : Type 0 where
  pub gives : (w : CoreModule) → Extends now w.texts → (ls : core.Levels) (c : Vars) (fs : Funs) (t : Target) (b : Bool) → verdict tests c ≡ Some b →
      core.eval w guard ls c fs t ≡ Gives (truth b ∷ []) t

-- ---- patterns

-- both match, all tests hold, and the environment describes the bindings; or the source does not, and Core does not
-- or a test fails
abbrev pub SameMatch : List Bind → List Test → Option Bindings → Option Vars → Type 0
SameMatch env tests None None = Unit {0}
SameMatch env tests None (Some d) = verdict tests d ≡ Some false
SameMatch env tests (Some b) None = ⊥
SameMatch env tests (Some b) (Some d) = (verdict tests d ≡ Some true) × Describes env b d

-- Core patterns, which can match as many values, and tests keep the matching of patterns, under names that are bound; they
-- bind more
pub record KeepsPatterns (now : Texts) (ps : Trees) (n0 : ℕ) (bound : List Bind) (made : PatTrees) (tests : List Test) (n1 : ℕ) (binds : List Bind) : Type 0 where
  pub drawn : n0 ≤ n1
  pub below : AreBelow n1 (bound ++ binds)
  pub tests_below : TestsBelow n1 tests
  pub fits : core.can_match (count ps) made ≡ true
  pub agree : (all : Texts) → Extends now all → (vs : List Value) (c d : Vars) → core.match_all all made vs c ≡ Some d → Agree n0 c d
  pub decided : (all : Texts) → Extends now all → (vs : List Value) (c d : Vars) → HaveValues bound c → core.match_all all made vs c ≡ Some d →
      HaveValues (bound ++ binds) d × (b : Bool) × (verdict tests d ≡ Some b)
  pub keeps : (all : Texts) → Extends now all → (vs : List Value) (b : Bindings) (c : Vars) → Describes bound b c →
      SameMatch (bound ++ binds) tests (source_match.match_all all ps vs b) (core.match_all all made vs c)

-- ---- clauses

-- Core clauses, which can match as many values, keep the choice among source clauses, whatever a choice does to the
-- states, and whatever is done where none is chosen, where this is kept
pub record KeepsPicks (now : Texts) (cs : Clauses) (env : List Bind) (sure : List Name) (made : List ClauseTree) : Type 0 where
  pub entries : List Entry
  pub bodies : Bodies now entries
  pub fits : (n : ℕ) → source.are_wide n cs ≡ true → core.all_can_match n (clauses made) ≡ true
  pub keeps : (vs : List Value) (b : Bindings) (c : Vars) → Describes env b c → InWorlds now entries (λ w cw Q n fs s t.
      (took : source.Source → source.Source) (took_core : Target → Target) (others : source.Source → source.Answer) (others_core : ℕ → Target → core.Answer) →
      ((x : source.Source) (y : Target) → Q x y → Q (took x) (took_core y)) →
      ((x : source.Source) (y : Target) → Q x y → Keeps (Exports sure) Q n (others x) (λ m. others_core m y)) →
      Keeps (Exports sure) Q n (source.pick w cs vs (source.levels w n) b took others s) (λ m. core.pick cw (clauses made) vs (core.levels cw m) c fs took_core (others_core m) t))

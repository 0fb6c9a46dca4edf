-- The names that a body exports, and their values behind its own.
use Rattle.std.specs.Prelude.{ℕ, ◌≡◌, ◌||◌, List, [], ◌∷◌, None, map}
use Rattle.ef_base.specs.declared.name.Name.{Name}
use Rattle.ef_core.specs.declared.env.Bind.{Bind}
use Rattle.ef_core.specs.Conditions.{NoneTwice}
use Rattle.ef_core.specs.Env.{held}
use Rattle.ef_core.specs.Everywhere.{Each}
use Rattle.ef_core.specs.Plain.{StepTree}
use Rattle.ef_core.specs.Tree.{CoreTree, var}
use Rattle.ef_forms.specs.Ways.{NameSet}
use Rattle.ef_meaning.specs.Cases.{together}
use Rattle.ef_meaning.specs.Named.{bound_names, name_set}
use Rattle.ef_lower.specs.Lowers.{Finishes, StandsFor}

abbrev pub held_variables : List Bind → List CoreTree
held_variables bs = map (λ (b : Bind). var b.var) bs

-- the names of a set that an environment does not have
pub record IsExported (env : List Bind) (set : NameSet) (names : List Name) : Type 0 where
  pub differ : NoneTwice names
  pub new : Each (λ x. held env x ≡ None) names
  pub all : (y : ℕ) → (bound_names env y || name_set names y) ≡ (bound_names env y || set y)

-- a value beside those of these names: alone it stands for itself
abbrev pub StandsBeside : List Bind → CoreTree → ℕ → List StepTree → ℕ → List StepTree → CoreTree → Type 0
StandsBeside [] value n old m new v = (v ≡ value) × (m ≡ n) × (new ≡ old)
StandsBeside (b ∷ bs) value n old m new v = StandsFor value n old m new v

-- steps, then the value and those of these names
pub record GivesNames (value : CoreTree) (n : ℕ) (old : List StepTree) (binds : List Bind) (m : ℕ) (e : CoreTree) : Type 0 where
  pub first : CoreTree
  pub steps : List StepTree
  pub stands : StandsBeside binds value n old m steps first
  pub is : Finishes steps (together (first ∷ held_variables binds)) e

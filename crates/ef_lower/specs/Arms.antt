-- What the clauses of a `case` are lowered to, and what is made of them.
use Rattle.std.specs.Prelude.{ℕ, ◌≡◌, ◌<◌, ◌≤◌, ◌+◌, ◌*◌, ◌⊎◌, List, [], ◌∷◌, ◌++◌, None, Some, codes, is_some, length, map}
use Rattle.std.specs.List.{filter}
use Rattle.ef_base.specs.Texts.{Texts}
use Rattle.ef_core.specs.declared.env.Bind.{Bind}
use Rattle.ef_core.specs.declared.literal.CoreVar.{CoreVar}
use Rattle.ef_core.specs.declared.literal.CoreVar.TheVariants.{Numbered}
use Rattle.ef_core.specs.declared.lowered.Test.{Test}
use Rattle.ef_core.specs.Env.{NamesDiffer, held}
use Rattle.ef_core.specs.Everywhere.{Each}
use Rattle.ef_core.specs.Fresh.{DrawsAtMost, most_variables}
use Rattle.ef_core.specs.Plain as core
use Rattle.ef_core.specs.Plain.{ClauseTree, StepTree, clauses}
use Rattle.ef_core.specs.Tree as c
use Rattle.ef_core.specs.Tree.{CoreTree, PatTrees}
use Rattle.ef_forms.specs.declared.tables.FunctionName.{FunctionName}
use Rattle.ef_forms.specs.Plain as source
use Rattle.ef_forms.specs.Weight.{all_weight}
use Rattle.ef_lower.specs.declared.arms.Arm.{Arm}
use Rattle.ef_lower.specs.Exports.{GivesNames}
use Rattle.ef_lower.specs.Lowers.{LowersBody}
use Rattle.ef_lower.specs.Matches.{IsFrontOf, IsGuardOf, IsLastClause, IsPatternsOf}
use Rattle.ef_lowpat.specs.Budgets.{variables_per_unit}
use Rattle.ef_meaning.specs.Cases.{AreHeld, names_of}
use Rattle.ef_meaning.specs.Lowers.{env_from, params_from}

-- a clause, before it is known which names it gives; its own names, and how many variables were drawn
pub record ArmTree : Type 0 where
  pub pats : PatTrees
  pub guard : CoreTree
  pub steps : List StepTree
  pub value : CoreTree
  pub binds : List Bind
  pub drawn : ℕ

abbrev pub plain_arm : Arm → ArmTree
plain_arm a = record {
  pats = core.plain_pats a.front.pats.items;
  guard = core.plain a.front.guard;
  steps = map core.plain_step a.steps.items;
  value = core.plain a.value;
  binds = a.binds;
  drawn = a.fresh;
}

-- ---- clauses that are lowered

-- the pattern and the guard of a clause; the names of the pattern go behind an environment
pub record IsFront (texts : Texts) (e : source.ClauseTree) (n : ℕ) (env : List Bind) (m : ℕ) (env1 : List Bind) (made : PatTrees) (guard : CoreTree) : Type 0 where
  pub binds : List Bind
  pub bound : env1 ≡ env ++ binds
  pub parts : IsFrontOf texts (source.trees e.patterns) n env m made guard binds

module _ (texts : Texts) (defined : List FunctionName) (n : ℕ) (env : List Bind) where
  -- a clause is lowered behind an environment: its pattern, the guard of its tests, and its body with the pattern's names
  pub record IsArm (e : source.ClauseTree) (a : ArmTree) : Type 0 where
    pub tests : List Test
    pub binds : List Bind
    -- how many variables are drawn behind the pattern and the guard
    pub matched : ℕ
    pub guarded : ℕ
    pub unguarded : e.guard ≡ []
    pub is_pattern : IsPatternsOf texts (source.trees e.patterns) n env a.pats tests matched binds
    pub is_guard : IsGuardOf texts tests a.guard
    pub guard_drawn : DrawsAtMost 2 matched guarded
    pub is_body : LowersBody texts defined e.body guarded (env ++ binds) [] a.steps a.drawn (env ++ a.binds) a.value
    pub differ : NamesDiffer (env ++ a.binds)
    pub enough : a.drawn + 1 ≤ n + variables_per_unit * (all_weight (source.trees e.patterns) + all_weight (source.trees e.body))

  abbrev pub AreArms : List source.ClauseTree → List ArmTree → Type 0
  AreArms [] [] = Unit {0}
  AreArms (e ∷ es) (a ∷ arms) = IsArm e a × AreArms es arms
  AreArms _ _ = ⊥

-- ---- the names that all of them bind

-- those of the names that the environment has too
abbrev pub also_bound : List Bind → List Bind → List Bind
also_bound env bs = filter (λ b. is_some (held env b.name)) bs

abbrev pub bound_by_all : List ArmTree → List Bind → List Bind
bound_by_all [] bs = bs
bound_by_all (a ∷ arms) bs = bound_by_all arms (also_bound a.binds bs)

-- in the order of the first
abbrev pub shared : List ArmTree → List Bind
shared [] = []
shared (a ∷ arms) = bound_by_all arms a.binds

abbrev pub BindsAll : List Bind → List Bind → Type 0
BindsAll env bs = Each (λ b. (v : CoreVar) × (held env b.name ≡ Some v)) bs

-- ---- clauses that give the values of these names

pub record FinishesArm (binds : List Bind) (a : ArmTree) (made : ClauseTree) : Type 0 where
  -- the same names, with their variables in the arm
  pub own : List Bind
  pub last : ℕ
  pub named : names_of own ≡ names_of binds
  pub are_held : AreHeld a.binds own
  pub gives : GivesNames a.value a.drawn a.steps own last made.body
  pub pats : made.pats ≡ a.pats
  pub guard : made.guard ≡ a.guard

abbrev pub FinishesAll : List Bind → List ArmTree → List ClauseTree → Type 0
FinishesAll binds [] [] = Unit {0}
FinishesAll binds (a ∷ arms) (m ∷ made) = FinishesArm binds a m × FinishesAll binds arms made
FinishesAll binds _ _ = ⊥

-- ---- the case of them

-- the names of each differ and are new, and there are variables left
pub record ArmsCanEnd (n : ℕ) (env : List Bind) (arms : List ArmTree) : Type 0 where
  pub differ : Each (λ a. NamesDiffer a.binds) arms
  pub new : Each (λ a. Each (λ b. held env b.name ≡ None) a.binds) arms
  pub room : Each (λ a. a.drawn < most_variables) arms
  pub enough : n + 5 + length (shared arms) ≤ most_variables

-- the clauses of the arms, and the last one behind them
pub record IsCaseOf (texts : Texts) (x : CoreTree) (arms : List ArmTree) (n m : ℕ) (e : CoreTree) : Type 0 where
  pub last : ClauseTree
  pub made : List ClauseTree
  pub is_last : IsLastClause texts (codes "case_clause") 1 n m last
  pub in_range : m ≤ most_variables
  pub finished : FinishesAll (shared arms) arms made
  pub is : e ≡ c.case_of x (clauses (made ++ last ∷ []))

-- a value is put behind the steps: the step's variables hold it and these names
pub record PutsNamed (binds : List Bind) (value : CoreTree) (n : ℕ) (env : List Bind) (old : List StepTree) (m : ℕ) (env1 : List Bind) (new : List StepTree) (e : CoreTree) : Type 0 where
  pub drawn : m ≡ n + 1 + length binds
  pub in_range : m ≤ most_variables
  pub bound : env1 ≡ env ++ env_from (n + 1) (names_of binds)
  pub steps : new ≡ old ++ record { vars = Numbered n ∷ params_from (n + 1) (names_of binds); value = value } ∷ []
  pub same : e ≡ c.var (Numbered n)

-- a value and these names behind it: without names it stands for itself, and no step is put around it
abbrev pub LeavesNames : List Bind → CoreTree → ℕ → List Bind → List StepTree → ℕ → List Bind → List StepTree → CoreTree → Type 0
LeavesNames [] value n env old m env1 new e = (e ≡ value) × (m ≡ n) × (env1 ≡ env) × (new ≡ old)
LeavesNames (b ∷ bs) value n env old m env1 new e = PutsNamed (b ∷ bs) value n env old m env1 new e

-- there are names that all arms bind: a step holds the case and these names
pub record HoldsCase (texts : Texts) (x : CoreTree) (arms : List ArmTree) (n : ℕ) (env : List Bind) (old : List StepTree) (m : ℕ) (env1 : List Bind) (new : List StepTree) (e : CoreTree) : Type 0 where
  pub some : 1 ≤ length (shared arms)
  -- how many variables are drawn behind the last clause
  pub first : ℕ
  pub whole : CoreTree
  pub is_case : IsCaseOf texts x arms n first whole
  pub puts : PutsNamed (shared arms) whole first env old m env1 new e

-- there are none: the case stands for itself
pub record StandsAsCase (texts : Texts) (x : CoreTree) (arms : List ArmTree) (n : ℕ) (env : List Bind) (old : List StepTree) (m : ℕ) (env1 : List Bind) (new : List StepTree) (e : CoreTree) : Type 0 where
  pub none : shared arms ≡ []
  pub is_case : IsCaseOf texts x arms n m e
  pub bound : env1 ≡ env
  pub steps : new ≡ old

abbrev pub MakesCase : Texts → CoreTree → List ArmTree → ℕ → List Bind → List StepTree → ℕ → List Bind → List StepTree → CoreTree → Type 0
MakesCase texts x arms n env old m env1 new e = HoldsCase texts x arms n env old m env1 new e ⊎ StandsAsCase texts x arms n env old m env1 new e

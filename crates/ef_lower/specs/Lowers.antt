-- What trees are lowered to: steps, and values behind them.
use Rattle.std.specs.Prelude.{ℕ, ◌+◌, ◌*◌, ◌<◌, ◌≤◌, ◌≡◌, ◌||◌, ◌⊎◌, List, [], ◌∷◌, ◌++◌, length, map}
use Rattle.ef_base.specs.Texts.{Texts}
use Rattle.ef_core.specs.declared.env.Bind.{Bind}
use Rattle.ef_core.specs.declared.literal.CoreVar.{CoreVar}
use Rattle.ef_core.specs.declared.literal.CoreVar.TheVariants.{Numbered}
use Rattle.ef_core.specs.Conditions.{NoneTwice}
use Rattle.ef_core.specs.Depth.{depth}
use Rattle.ef_core.specs.Everywhere.{Each}
use Rattle.ef_core.specs.Fresh.{most_variables}
pub use Rattle.ef_core.specs.Fresh.{DrawsAtMost as Draws}
use Rattle.ef_core.specs.LetForm.{IsSimple}
pub use Rattle.ef_core.specs.Lowered.{IsLowered, lowered}
use Rattle.ef_core.specs.Normal.{IsNoRun}
use Rattle.ef_core.specs.declared.tree.CoreExpr.{CoreExpr}
use Rattle.ef_core.specs.declared.tree.LetStep.{LetStep}
use Rattle.ef_core.specs.Plain.{StepTree, plain, plain_step, steps}
use Rattle.ef_core.specs.Tree.{CoreTree, var, lets}
use Rattle.ef_forms.specs.declared.tables.FunctionName.{FunctionName}
use Rattle.ef_forms.specs.Depth.{all_depth}
use Rattle.ef_forms.specs.Plain.{trees}
use Rattle.ef_forms.specs.Tree.{Tree}
use Rattle.ef_forms.specs.Sure.{all_sure}
use Rattle.ef_forms.specs.Ways.{NameSet}
use Rattle.ef_forms.specs.Weight.{all_weight}
use Rattle.ef_lowpat.specs.Budgets.{depth_per_level, variables_per_unit}
use Rattle.ef_meaning.specs.Lowers.{KeepsExpr, KeepsAll}
use Rattle.ef_lower.specs.LastCalls.{StaysLast}
use Rattle.ef_lower.specs.Ready.{IsReadableBind, bound_names}
use Rattle.ef_lower.specs.Scope.{AreInScope}

-- ---- steps that are put behind others

-- what holds of those that were added
pub record Adds (old new : List StepTree) (P : List StepTree → Type 0) : Type 0 where
  pub added : List StepTree
  pub steps : new ≡ old ++ added
  pub is : P added

-- the value is put behind the steps, for the next variable
pub record Puts (value : CoreTree) (n : ℕ) (old : List StepTree) (m : ℕ) (new : List StepTree) (v : CoreVar) : Type 0 where
  pub variable : v ≡ Numbered n
  pub in_range : n < most_variables
  pub drawn : m ≡ n + 1
  pub steps : new ≡ old ++ record { vars = Numbered n ∷ []; value = value } ∷ []

-- the value stands for itself, or a variable does that one more step sets
abbrev pub StandsFor : CoreTree → ℕ → List StepTree → ℕ → List StepTree → CoreTree → Type 0
StandsFor value n old m new v =
    ((v ≡ value) × IsSimple value × (m ≡ n) × (new ≡ old)) ⊎ ((v ≡ var (Numbered n)) × Puts value n old m new (Numbered n))

-- the steps and then the value, as one run
abbrev pub Finishes : List StepTree → CoreTree → CoreTree → Type 0
Finishes [] value e = e ≡ value
Finishes (s ∷ ss) value e = e ≡ lets (steps (s ∷ ss)) value

-- ---- their forms

-- no deeper than the levels of the source allow, two nodes round it included
abbrev pub IsShallow : ℕ → CoreTree → Type 0
IsShallow levels e = depth e + 2 ≤ depth_per_level * levels

pub record IsLoweredStep (texts : Texts) (levels : ℕ) (s : StepTree) : Type 0 where
  pub variables : Each (lowered texts).variable s.vars
  pub differ : NoneTwice s.vars
  pub value : IsLowered texts s.value
  pub shallow : IsShallow levels s.value

-- a variable or a literal, no deeper than what it is the value of
pub record IsArgument (texts : Texts) (levels : ℕ) (e : CoreTree) : Type 0 where
  pub simple : IsSimple e
  pub lowered : IsLowered texts e
  pub shallow : depth e ≤ levels

-- an environment, and these names too
pub record Binds (texts : Texts) (env0 : List Bind) (set : NameSet) (env1 : List Bind) : Type 0 where
  pub more : List Bind
  pub grown : env1 ≡ env0 ++ more
  pub named : (y : ℕ) → bound_names env1 y ≡ (bound_names env0 y || set y)
  pub readable : Each (IsReadableBind texts) env1

module _ (texts : Texts) (defined : List FunctionName) (es : List Tree) (n0 : ℕ) (env0 : List Bind) (added : List StepTree) (n1 : ℕ) (env1 : List Bind) where
  -- the steps of trees, and arguments behind them
  pub record ArgumentForms (values : List CoreTree) : Type 0 where
    pub names : Binds texts env0 (all_sure (trees es)) env1
    pub number : length values ≡ length es
    pub drawn : n0 ≤ n1
    pub enough : n1 ≤ n0 + variables_per_unit * all_weight (trees es)
    pub steps : Each (IsLoweredStep texts (all_depth (trees es))) added
    pub arguments : Each (IsArgument texts (all_depth (trees es))) values
    pub in_scope : AreInScope texts defined env0 added env1 values

  -- the steps of trees, and one value behind them; there is a variable left that may hold it
  pub record ValueForm (value : CoreTree) : Type 0 where
    pub names : Binds texts env0 (all_sure (trees es)) env1
    pub drawn : n0 ≤ n1
    pub enough : n1 + 1 ≤ n0 + variables_per_unit * all_weight (trees es)
    pub steps : Each (IsLoweredStep texts (all_depth (trees es))) added
    pub lowered : IsLowered texts value
    pub no_run : IsNoRun value
    pub shallow : IsShallow (all_depth (trees es)) value
    pub argument : IsSimple value → depth value ≤ all_depth (trees es)
    pub in_scope : AreInScope texts defined env0 added env1 (value ∷ [])

-- ---- forms and meaning

module _ (texts : Texts) (defined : List FunctionName) where
  -- a tree is lowered to steps and a value
  pub record Lowers (e : Tree) (n0 : ℕ) (env0 : List Bind) (added : List StepTree) (n1 : ℕ) (env1 : List Bind) (value : CoreTree) : Type 0 where
    pub form : ValueForm texts defined (e ∷ []) n0 env0 added n1 env1 value
    pub stays : StaysLast (bound_names env0) e value
    pub keeps : KeepsExpr texts e n0 env0 added n1 env1 value

  -- trees, one after another, to steps and arguments
  pub record LowersAll (es : List Tree) (n0 : ℕ) (env0 : List Bind) (added : List StepTree) (n1 : ℕ) (env1 : List Bind) (values : List CoreTree) : Type 0 where
    pub forms : ArgumentForms texts defined es n0 env0 added n1 env1 values
    pub keeps : KeepsAll texts es n0 env0 added n1 env1 values

  -- a body, with its last expression behind the others
  pub record LowersBody (es : List Tree) (n0 : ℕ) (env0 : List Bind) (old new : List StepTree) (n2 : ℕ) (env2 : List Bind) (value : CoreTree) : Type 0 where
    pub front : List Tree
    pub last : Tree
    pub whole : front ++ last ∷ [] ≡ es
    pub n1 : ℕ
    pub env1 : List Bind
    pub between : List StepTree
    pub values : List CoreTree
    pub first_lowered : Adds old between (λ added. LowersAll front n0 env0 added n1 env1 values)
    pub last_lowered : Adds between new (λ added. Lowers last n1 env1 added n2 env2 value)

  -- ---- the same, behind the steps that the code has

  abbrev pub Appends : Tree → ℕ → List Bind → List LetStep → ℕ → List Bind → List LetStep → CoreExpr → Type 0
  Appends e n0 env0 old n1 env1 new value = Adds (map plain_step old) (map plain_step new) (λ added. Lowers e n0 env0 added n1 env1 (plain value))

  abbrev pub AppendsAll : List Tree → ℕ → List Bind → List LetStep → ℕ → List Bind → List LetStep → List CoreExpr → Type 0
  AppendsAll es n0 env0 old n1 env1 new values = Adds (map plain_step old) (map plain_step new) (λ added. LowersAll es n0 env0 added n1 env1 (map plain values))

  abbrev pub AppendsBody : List Tree → ℕ → List Bind → List LetStep → ℕ → List Bind → List LetStep → CoreExpr → Type 0
  AppendsBody es n0 env0 old n1 env1 new value = LowersBody es n0 env0 (map plain_step old) (map plain_step new) n1 env1 (plain value)

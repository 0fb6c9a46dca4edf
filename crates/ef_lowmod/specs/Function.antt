-- Functions that can be lowered, and what they are lowered to.
use Rattle.std.specs.Prelude.{ℕ, ◌≡◌, ◌≤◌, ◌*◌, codes, List, [], ◌∷◌, ◌++◌}
use Rattle.ef_base.specs.Texts.{Texts, HasName}
use Rattle.ef_core.specs.declared.literal.FName.{FName}
use Rattle.ef_core.specs.Depth.{depth}
use Rattle.ef_core.specs.Fresh.{most_variables}
pub use Rattle.ef_core.specs.Fresh.{variables_from}
use Rattle.ef_core.specs.Lowered.{IsLowered}
use Rattle.ef_core.specs.OfTable.{DefOf}
use Rattle.ef_core.specs.Scope.{InScope}
use Rattle.ef_core.specs.Tree.{DefTree}
use Rattle.ef_core.specs.WellFormed.{Matches}
use Rattle.ef_forms.specs.declared.tables.FunctionName.{FunctionName}
use Rattle.ef_forms.specs.Built.{AreNarrowClauses, AreSome, functions_in}
use Rattle.ef_forms.specs.Depth.{function_depth}
use Rattle.ef_forms.specs.Tree.{FunctionTree, PlacedTree}
use Rattle.ef_forms.specs.Ways.{function_faults}
use Rattle.ef_forms.specs.Weight.{function_weight}
use Rattle.ef_lower.specs.Ready.{lower_words}
use Rattle.ef_lowmod.specs.Clauses.{AreReadyClauses}
use Rattle.ef_lowpat.specs.Budgets.{depth_per_level, variables_per_function}
use Rattle.ef_lowpat.specs.Guards.{HoldsWords}
use Rattle.ef_meaning.specs.Lowers.{KeepDefinitions}

-- the texts that are named in what functions are lowered to
abbrev pub function_words : List (List ℕ)
function_words = codes "function_clause" ∷ lower_words

abbrev pub HasWords : Texts → Type 0
HasWords all = HoldsWords all function_words

-- there are clauses
abbrev pub IsWhole : FunctionTree → Type 0
IsWhole f = AreSome f.clauses

abbrev pub IsNarrowFunction : FunctionTree → Type 0
IsNarrowFunction f = AreNarrowClauses f.clauses

-- the variables are enough for the function
abbrev pub IsLight : FunctionTree → Type 0
IsLight f = variables_per_function * function_weight f ≤ most_variables

abbrev pub HasNoFault : Texts → FunctionTree → Type 0
HasNoFault all f = function_faults all f ≡ []

pub record IsReadyFunction (all : Texts) (defined : List FunctionName) (f : FunctionTree) : Type 0 where
  pub name : HasName all f.name
  pub some : AreSome f.clauses
  pub clauses : AreReadyClauses all defined f.arity f.clauses
  pub light : IsLight f

abbrev pub fname_of : FunctionTree → FName
fname_of f = record { name = f.name; arity = f.arity }

-- a function of this name and arity, whose parameters are the first variables, and whose body a text can say: it is in
-- scope where these functions are, and no deeper than the levels of the source allow
pub record IsLoweredFunction (all : Texts) (fs : List FName) (f : FunctionTree) (d : DefTree) : Type 0 where
  pub name : d.name ≡ fname_of f
  pub parameters : d.params ≡ variables_from 0 f.arity
  pub matches : Matches d.name d.params
  pub body : IsLowered all d.body
  pub in_scope : InScope d.params fs d.body
  pub shallow : depth d.body ≤ depth_per_level * function_depth f
  pub of_table : DefOf all d

-- each of the one is lowered to that of the other
abbrev pub AreLowered : Texts → List FName → List FunctionTree → List DefTree → Type 0
AreLowered all fs [] [] = Unit {0}
AreLowered all fs (g ∷ gs) (d ∷ ds) = IsLoweredFunction all fs g d × AreLowered all fs gs ds
AreLowered all fs _ _ = ⊥

-- behind the others, what the function of a form is lowered to
pub record IsLoweredForm (all : Texts) (fs : List FName) (f : PlacedTree) (old new : List DefTree) : Type 0 where
  pub added : List DefTree
  pub is : new ≡ old ++ added
  pub lowered : AreLowered all fs (functions_in (f ∷ [])) added

-- behind the others, what keeps the meaning of the function of a form
pub record KeepsForm (now : Texts) (f : PlacedTree) (old new : List DefTree) : Type 0 where
  pub added : List DefTree
  pub is : new ≡ old ++ added
  pub keep : KeepDefinitions now (functions_in (f ∷ [])) added

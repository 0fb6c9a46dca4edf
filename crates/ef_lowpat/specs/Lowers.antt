-- What patterns are lowered to, one behind another.
use Rattle.std.specs.Prelude.{ℕ, ◌≡◌, ◌≤◌, ◌+◌, ◌||◌, ◌⊎◌, true, Option, Some, None, List, [], ◌∷◌, ◌++◌, length}
use Rattle.ef_base.specs.declared.name.Name.{Name}
use Rattle.ef_base.specs.Texts.{Texts}
use Rattle.ef_core.specs.declared.env.Bind.{Bind}
use Rattle.ef_core.specs.declared.literal.CoreVar.{CoreVar}
use Rattle.ef_core.specs.declared.literal.FName.{FName}
use Rattle.ef_core.specs.declared.lowered.Test.{Test}
use Rattle.ef_core.specs.Depth.{pat_depth, pats_depth}
use Rattle.ef_core.specs.Env.{NamesDiffer, bind, held}
use Rattle.ef_core.specs.Everywhere.{Each, PatHolds, PatsHold}
use Rattle.ef_core.specs.Fresh.{IsDrawnIn, variables_from}
use Rattle.ef_core.specs.Lowered.{lowered}
use Rattle.ef_core.specs.Plain.{pats}
use Rattle.ef_core.specs.Scope.{IsAmong, SizeInScope, SizesInScope, pat_vars, pats_vars}
use Rattle.ef_core.specs.Tree.{PatTree}
use Rattle.ef_forms.specs.Depth.{all_depth, depth}
use Rattle.ef_forms.specs.OfTable.{TreeOf, TreesOf}
use Rattle.ef_forms.specs.Plain.{trees}
use Rattle.ef_forms.specs.Tree.{Tree}
use Rattle.ef_forms.specs.Ways.{all_names, names}
use Rattle.ef_forms.specs.Weight.{all_weight, weight}
use Rattle.ef_meaning.specs.Core.{are_built, is_built}
use Rattle.ef_meaning.specs.Named.{bound_names}
use Rattle.ef_lowpat.specs.Matching.{KeepsItems, KeepsPattern}

-- a variable of this environment
abbrev pub IsVariableOf : List Bind → CoreVar → Type 0
IsVariableOf env v = (b : Bind) × IsAmong env b × (b.var ≡ v)

-- tests and names that were found from a number of variables on, up to another
pub record AreFound (bound : List Bind) (first last : ℕ) (tests : List Test) (binds : List Bind) : Type 0 where
  pub differ : NamesDiffer binds
  pub new : Each (λ b. held bound b.name ≡ None) binds
  pub drawn : Each (λ b. IsDrawnIn first last b.var) binds
  pub lefts : Each (λ t. IsDrawnIn first last t.left) tests
  pub rights : Each (λ t. IsDrawnIn first last t.right ⊎ IsVariableOf bound t.right) tests

-- a pattern, behind tests and names that were found before; this is known of what is made
pub record LowersTo (known : Texts → PatTree → Type 0) (e : Tree) (bound : List Bind) (n0 : ℕ) (tests0 : List Test) (binds0 : List Bind) (n1 : ℕ) (tests1 : List Test) (binds1 : List Bind) (made : PatTree) : Type 0 where
  pub tests : List Test
  pub binds : List Bind
  pub tests_added : tests1 ≡ tests0 ++ tests
  pub binds_added : binds1 ≡ binds0 ++ binds
  pub keeps : KeepsPattern e n0 (bound ++ binds0) made tests n1 binds
  pub named : (y : ℕ) → bound_names (bound ++ binds1) y ≡ (bound_names (bound ++ binds0) y || names e y)
  pub found : (first : ℕ) → first ≤ n0 → AreFound bound first n0 tests0 binds0 → AreFound bound first n1 tests1 binds1
  pub count : ℕ
  pub drawn : n1 ≡ n0 + count
  pub light : count ≤ weight e
  pub variables : pat_vars made ≡ variables_from n0 count
  pub shallow : pat_depth made ≤ depth e
  pub built : is_built made ≡ true
  pub lowered : (texts : Texts) → TreeOf texts e → known texts made
  pub sizes : (vs : List CoreVar) (fs : List FName) → SizeInScope vs fs made

abbrev pub LowersPattern : Tree → List Bind → ℕ → List Test → List Bind → ℕ → List Test → List Bind → PatTree → Type 0
LowersPattern = LowersTo (λ texts. PatHolds (lowered texts))

-- the same of several, which match the front of a list
pub record LowersItems (es : List Tree) (bound : List Bind) (n0 : ℕ) (tests0 : List Test) (binds0 : List Bind) (n1 : ℕ) (tests1 : List Test) (binds1 : List Bind) (made : List PatTree) : Type 0 where
  pub tests : List Test
  pub binds : List Bind
  pub tests_added : tests1 ≡ tests0 ++ tests
  pub binds_added : binds1 ≡ binds0 ++ binds
  pub keeps : KeepsItems es n0 (bound ++ binds0) made tests n1 binds
  pub named : (y : ℕ) → bound_names (bound ++ binds1) y ≡ (bound_names (bound ++ binds0) y || all_names (trees es) y)
  pub found : (first : ℕ) → first ≤ n0 → AreFound bound first n0 tests0 binds0 → AreFound bound first n1 tests1 binds1
  pub number : length made ≡ length es
  pub count : ℕ
  pub drawn : n1 ≡ n0 + count
  pub light : count ≤ all_weight (trees es)
  pub variables : pats_vars (pats made) ≡ variables_from n0 count
  pub shallow : pats_depth (pats made) ≤ all_depth (trees es)
  pub built : are_built (pats made) ≡ true
  pub lowered : (texts : Texts) → TreesOf texts (trees es) → PatsHold (lowered texts) (pats made)
  pub sizes : (vs : List CoreVar) (fs : List FName) → SizesInScope vs fs (pats made)

-- a variable of a name that is held is a test, and another binds the name
abbrev pub Notes : Option CoreVar → Name → CoreVar → List Test → List Bind → List Test → List Bind → Type 0
Notes (Some z) x y tests0 binds0 tests1 binds1 = (tests1 ≡ tests0 ++ record { left = y; right = z } ∷ []) × (binds1 ≡ binds0)
Notes None x y tests0 binds0 tests1 binds1 = (tests1 ≡ tests0) × (binds1 ≡ binds0 ++ bind x y ∷ [])

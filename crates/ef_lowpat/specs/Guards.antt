-- Guards that are made of tests.
use Rattle.std.specs.Prelude.{◌≡◌, List, [], ◌∷◌, ℕ, codes, map}
use Rattle.ef_base.specs.declared.name.Name.{Name}
use Rattle.ef_base.specs.Texts.{Texts, IsNameOf}
use Rattle.ef_core.specs.declared.literal.CoreVar.{CoreVar}
use Rattle.ef_core.specs.declared.lowered.Test.{Test}
use Rattle.ef_core.specs.Everywhere.{Each}
use Rattle.ef_core.specs.Plain.{trees}
use Rattle.ef_core.specs.Scope.{IsAmong}
use Rattle.ef_core.specs.Tree.{CoreTree, CoreTrees, atom, call, done, lets, lit, step, tuple, var}

-- the table has a name of this text, and of each of these
abbrev pub HoldsWord : Texts → List ℕ → Type 0
HoldsWord texts word = (n : Name) × IsNameOf texts n word

abbrev pub HoldsWords : Texts → List (List ℕ) → Type 0
HoldsWords texts words = Each (HoldsWord texts) words

-- what a guard of tests names
abbrev pub guard_words : List (List ℕ)
guard_words = codes "erlang" ∷ codes "=:=" ∷ codes "true" ∷ []

-- the variables of the tests are among these
abbrev pub HasTested : List Test → List CoreVar → Type 0
HasTested tests vs = Each (λ t. IsAmong vs t.left × IsAmong vs t.right) tests

-- `'true'`
pub record IsYes (texts : Texts) (e : CoreTree) : Type 0 where
  pub word : Name
  pub named : IsNameOf texts word (codes "true")
  pub is : e ≡ lit (atom word)

-- `call 'erlang':'=:='` of two variables
pub record IsComparison (texts : Texts) (left right : CoreVar) (e : CoreTree) : Type 0 where
  pub erlang : Name
  pub same : Name
  pub erlang_named : IsNameOf texts erlang (codes "erlang")
  pub same_named : IsNameOf texts same (codes "=:=")
  pub is : e ≡ call (lit (atom erlang)) (lit (atom same)) (trees (var left ∷ var right ∷ []))

abbrev pub lefts : List Test → CoreTrees
lefts tests = trees (map (λ t. var t.left) tests)

abbrev pub rights : List Test → CoreTrees
rights tests = trees (map (λ t. var t.right) tests)

-- behind the tuples of both sides
abbrev pub behind_sides : List Test → CoreVar → CoreVar → CoreTree → CoreTree
behind_sides tests left right body = lets (step (left ∷ []) (tuple (lefts tests)) (step (right ∷ []) (tuple (rights tests)) done)) body

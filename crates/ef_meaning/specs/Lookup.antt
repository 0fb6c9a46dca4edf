-- Functions by name and number of parameters, and funs by their number.
use Rattle.std.specs.Prelude.{ℕ, zero, suc, ◌&&◌, ◌==◌, if◌then◌else◌, List, [], ◌∷◌, map, Option, Some, None, bytes_eq, slice_get}

-- the name of a function, as a text, and its number of parameters
pub record FunctionKey : Type 0 where
  pub name : List ℕ
  pub arity : ℕ

-- what stands for the function of this name and number of parameters: the first that has both
abbrev pub find : {A : Type 0} → List ℕ → ℕ → List (FunctionKey × A) → Option A
find f a [] = None
find f a (g ∷ gs) = if bytes_eq g.0.name f && g.0.arity == a then Some g.1 else find f a gs

abbrev pub keys : {A : Type 0} → List (FunctionKey × A) → List FunctionKey
keys gs = map (λ g. g.0) gs

-- the k-th, counted from 1
abbrev pub nth : {A : Type 0} → List A → ℕ → Option A
nth xs zero = None
nth xs (suc k) = slice_get xs k

-- Values that can occur in a run: each made fun was made, and each local fun is a function of the module.
use Rattle.std.specs.Prelude.{ℕ, Bool, true, false, ◌&&◌, ◌||◌, ◌==◌, List, [], ◌∷◌, Option, Some, None, bytes_eq}
use Rattle.ef_meaning.specs.Value.{Value, Values, Tuple, Cons, Local, Made, none, some}
use Rattle.ef_meaning.specs.Lookup.{FunctionKey, nth}

-- what is known in a state: the functions of the module, and the number of parameters of each fun that was made
pub record Known : Type 0 where
  pub functions : List FunctionKey
  pub made : List ℕ

abbrev pub has_function : List FunctionKey → List ℕ → ℕ → Bool
has_function [] f a = false
has_function (g ∷ gs) f a = (bytes_eq g.name f && g.arity == a) || has_function gs f a

abbrev pub is_the_arity : Option ℕ → ℕ → Bool
is_the_arity None a = false
is_the_arity (Some b) a = b == a

abbrev mutual
  pub is_proper : Known → Value → Bool
  is_proper k (Tuple vs) = are_proper k vs
  is_proper k (Cons u v) = is_proper k u && is_proper k v
  is_proper k (Local f a) = has_function k.functions f a
  is_proper k (Made i a) = is_the_arity (nth k.made i) a
  is_proper k _ = true

  pub are_proper : Known → Values → Bool
  are_proper k none = true
  are_proper k (some v vs) = is_proper k v && are_proper k vs

-- Values (Erlang Reference Manual, "Data Types"; floats and maps are left out).
use Rattle.std.specs.Prelude.{ℕ, ℤ, Bool, if◌then◌else◌, codes, List, [], ◌∷◌, Option, Some, None}

mutual
  pub data Value : Type 0 where
    Integer : ℤ → Value
    -- an atom is its text
    Atom : List ℕ → Value
    Tuple : Values → Value
    Nil : Value
    -- a head and a tail
    Cons : Value → Value → Value
    BitString : List Bool → Value
    Pid : ℕ → Value
    Port : ℕ → Value
    Reference : ℕ → Value
    -- the function of the module of this name and number of parameters
    Local : List ℕ → ℕ → Value
    -- the function of a module: the module, the name, the number of parameters
    External : List ℕ → List ℕ → ℕ → Value
    -- the k-th fun that was made in this run, from 1, with its number of parameters
    Made : ℕ → ℕ → Value

  pub data Values : Type 0 where
    none : Values
    some : Value → Values → Values

abbrev pub values_of : List Value → Values
values_of [] = none
values_of (v ∷ vs) = some v (values_of vs)

-- a list of these elements before a tail
abbrev pub list_onto : List Value → Value → Value
list_onto [] tail = tail
list_onto (v ∷ vs) tail = Cons v (list_onto vs tail)

-- the proper list of these elements
abbrev pub list_value : List Value → Value
list_value vs = list_onto vs Nil

abbrev pub pair_value : Value → Value → Value
pair_value u v = Tuple (some u (some v none))

abbrev pub truth : Bool → Value
truth b = if b then Atom (codes "true") else Atom (codes "false")

-- ---- the parts of lists and tuples

abbrev pub head_and_tail : Value → Option (Value × Value)
head_and_tail (Cons u v) = Some (u, v)
head_and_tail _ = None

abbrev pub elements : Value → Option Values
elements (Tuple vs) = Some vs
elements _ = None

-- what is done with a part that is there
abbrev pub with_some : {A B : Type 0} → Option A → (A → Option B) → Option B
with_some None go = None
with_some (Some a) go = go a

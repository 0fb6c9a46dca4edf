-- Whether two values are equal (Erlang Reference Manual, "Term Comparisons"; without floats both equalities are this one).
use Rattle.std.specs.Prelude.{Bool, true, false, not, ◌&&◌, ◌==◌, List, [], ◌∷◌, bytes_eq}
use Rattle.std.specs.Ordering.{int_eq}
use Rattle.ef_meaning.specs.Value.{Value, Values, Integer, Atom, Tuple, Nil, Cons, BitString, Pid, Port, Reference, Local, External, Made, none, some}

abbrev pub same_bit : Bool → Bool → Bool
same_bit true b = b
same_bit false b = not b

abbrev pub same_bits : List Bool → List Bool → Bool
same_bits [] [] = true
same_bits (a ∷ rest) (b ∷ others) = same_bit a b && same_bits rest others
same_bits _ _ = false

abbrev mutual
  pub same_value : Value → Value → Bool
  same_value (Integer i) (Integer j) = int_eq i j
  same_value (Atom a) (Atom b) = bytes_eq a b
  same_value (Tuple us) (Tuple vs) = same_values us vs
  same_value Nil Nil = true
  same_value (Cons u us) (Cons v vs) = same_value u v && same_value us vs
  same_value (BitString a) (BitString b) = same_bits a b
  same_value (Pid i) (Pid j) = i == j
  same_value (Port i) (Port j) = i == j
  same_value (Reference i) (Reference j) = i == j
  same_value (Local f a) (Local g b) = bytes_eq f g && a == b
  same_value (External m f a) (External n g b) = bytes_eq m n && bytes_eq f g && a == b
  same_value (Made i a) (Made j b) = i == j && a == b
  same_value _ _ = false

  pub same_values : Values → Values → Bool
  same_values none none = true
  same_values (some u us) (some v vs) = same_value u v && same_values us vs
  same_values _ _ = false

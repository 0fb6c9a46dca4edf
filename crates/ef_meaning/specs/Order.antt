-- The order of terms (Erlang Reference Manual, "Term Comparisons"; the order among funs is this definition's own choice).
use Rattle.std.specs.Prelude.{ℕ, ◌+◌}
use Rattle.std.specs.Ordering.{nat_cmp, int_cmp, bool_cmp, ordering_then}
use Rattle.std.specs.declared.cmp.Ordering.{Ordering}
use Rattle.std.specs.declared.cmp.Ordering.TheVariants.{Less, Equal, Greater}
use Rattle.std.specs.Cmp.Lexicographic.{slice_cmp}
use Rattle.ef_meaning.specs.Value.{Value, Values, Integer, Atom, Tuple, Nil, Cons, BitString, Pid, Port, Reference, Local, External, Made, none, some}

-- a number is less than an atom, and so on; local funs are less than external ones, and these than made ones
abbrev pub kind : Value → ℕ
kind (Integer i) = 0
kind (Atom a) = 1
kind (Reference i) = 2
kind (Local f a) = 3
kind (External m f a) = 4
kind (Made i a) = 5
kind (Port i) = 6
kind (Pid i) = 7
kind (Tuple vs) = 8
kind Nil = 9
kind (Cons u v) = 10
kind (BitString bs) = 11

abbrev pub size : Values → ℕ
size none = 0
size (some v vs) = 1 + size vs

abbrev mutual
  -- within one kind by the parts, from left to right; tuples by size first
  pub compare : Value → Value → Ordering
  compare (Integer i) (Integer j) = int_cmp i j
  compare (Atom a) (Atom b) = slice_cmp nat_cmp a b
  compare (Reference i) (Reference j) = nat_cmp i j
  compare (Local f a) (Local g b) = ordering_then (slice_cmp nat_cmp f g) (nat_cmp a b)
  compare (External m f a) (External n g b) = ordering_then (ordering_then (slice_cmp nat_cmp m n) (slice_cmp nat_cmp f g)) (nat_cmp a b)
  compare (Made i a) (Made j b) = ordering_then (nat_cmp i j) (nat_cmp a b)
  compare (Port i) (Port j) = nat_cmp i j
  compare (Pid i) (Pid j) = nat_cmp i j
  compare (Tuple us) (Tuple vs) = ordering_then (nat_cmp (size us) (size vs)) (compare_all us vs)
  compare (Cons u us) (Cons v vs) = ordering_then (compare u v) (compare us vs)
  compare (BitString a) (BitString b) = slice_cmp bool_cmp a b
  compare u v = nat_cmp (kind u) (kind v)

  -- from the front; a proper beginning is less
  pub compare_all : Values → Values → Ordering
  compare_all none none = Equal
  compare_all none (some v vs) = Less
  compare_all (some u us) none = Greater
  compare_all (some u us) (some v vs) = ordering_then (compare u v) (compare_all us vs)

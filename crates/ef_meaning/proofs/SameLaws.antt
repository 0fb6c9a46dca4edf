-- Values compare equal exactly where they are the same.
use Rattle.std.proofs.Common.{◌≡◌, ℕ, ℤ, Bool, true, false, ◌&&◌, ◌==◌, bytes_eq, List, [], ◌∷◌, refl, ap}
use Rattle.std.proofs.lemmas.Bool.Decides.{Decides-eqb, Decides-int_eq}
use Rattle.std.proofs.lemmas.Slice.Eq.{bytes_eq-Decides}
use Rattle.std.specs.Ordering.{int_eq}
use Rattle.ef_meaning.specs.Value.{Value, Values, Integer, Atom, Tuple, Nil, Cons, BitString, Pid, Port, Reference, Local, External, Made, none, some}
use Rattle.ef_meaning.specs.Same.{same_bit, same_bits, same_value, same_values}

left_true : (a b : Bool) → (a && b) ≡ true → a ≡ true
left_true true b p = refl
left_true false b p = absurd cc

right_true : (a b : Bool) → (a && b) ≡ true → b ≡ true
right_true true b p = p
right_true false b p = absurd cc

both_true : (a b : Bool) → a ≡ true → b ≡ true → (a && b) ≡ true
both_true a b p q = rw (p, q) refl

number_same : (i j : ℕ) → (i == j) ≡ true → i ≡ j
number_same i j p = (Decides-eqb i j).0 p

number_itself : (i : ℕ) → (i == i) ≡ true
number_itself i = (Decides-eqb i i).1 refl

text_same : (a b : List ℕ) → bytes_eq a b ≡ true → a ≡ b
text_same a b p = (bytes_eq-Decides a b).0 p

text_itself : (a : List ℕ) → bytes_eq a a ≡ true
text_itself a = (bytes_eq-Decides a a).1 refl

bit_same : (a b : Bool) → same_bit a b ≡ true → a ≡ b
bit_same true true p = refl
bit_same true false p = absurd cc
bit_same false true p = absurd cc
bit_same false false p = refl

bit_itself : (a : Bool) → same_bit a a ≡ true
bit_itself true = refl
bit_itself false = refl

bits_same : (a b : List Bool) → same_bits a b ≡ true → a ≡ b
bits_same [] [] p = refl
bits_same [] (d ∷ b) p = absurd cc
bits_same (c ∷ a) [] p = absurd cc
bits_same (c ∷ a) (d ∷ b) p = λ i. bit_same c d (left_true (same_bit c d) (same_bits a b) p) i ∷ bits_same a b (right_true (same_bit c d) (same_bits a b) p) i

bits_itself : (a : List Bool) → same_bits a a ≡ true
bits_itself [] = refl
bits_itself (c ∷ a) = both_true (same_bit c c) (same_bits a a) (bit_itself c) (bits_itself a)

int_same : (i j : ℤ) → int_eq i j ≡ true → i ≡ j
int_same i j p = (Decides-int_eq i j).0 p

int_itself : (i : ℤ) → int_eq i i ≡ true
int_itself i = (Decides-int_eq i i).1 refl

mutual
  pub value_same : (u v : Value) → same_value u v ≡ true → u ≡ v
  value_same (Integer i) (Integer j) p = ap Integer (int_same i j p)
  value_same (Atom a) (Atom b) p = ap Atom (text_same a b p)
  value_same (Tuple us) (Tuple vs) p = ap Tuple (values_same us vs p)
  value_same Nil Nil p = refl
  value_same (Cons u us) (Cons v vs) p = λ i. Cons (value_same u v (left_true (same_value u v) (same_value us vs) p) i) (value_same us vs (right_true (same_value u v) (same_value us vs) p) i)
  value_same (BitString a) (BitString b) p = ap BitString (bits_same a b p)
  value_same (Pid i) (Pid j) p = ap Pid (number_same i j p)
  value_same (Port i) (Port j) p = ap Port (number_same i j p)
  value_same (Reference i) (Reference j) p = ap Reference (number_same i j p)
  value_same (Local f a) (Local g b) p = λ i. Local (text_same f g (left_true (bytes_eq f g) (a == b) p) i) (number_same a b (right_true (bytes_eq f g) (a == b) p) i)
  value_same (External m f a) (External n g b) p =
      let q = left_true (bytes_eq m n && bytes_eq f g) (a == b) p in
      λ i. External (text_same m n (left_true (bytes_eq m n) (bytes_eq f g) q) i) (text_same f g (right_true (bytes_eq m n) (bytes_eq f g) q) i) (number_same a b (right_true (bytes_eq m n && bytes_eq f g) (a == b) p) i)
  value_same (Made i a) (Made j b) p = λ x. Made (number_same i j (left_true (i == j) (a == b) p) x) (number_same a b (right_true (i == j) (a == b) p) x)
  value_same _ _ p = absurd cc

  values_same : (us vs : Values) → same_values us vs ≡ true → us ≡ vs
  values_same none none p = refl
  values_same none (some v vs) p = absurd cc
  values_same (some u us) none p = absurd cc
  values_same (some u us) (some v vs) p = λ i. some (value_same u v (left_true (same_value u v) (same_values us vs) p) i) (values_same us vs (right_true (same_value u v) (same_values us vs) p) i)

mutual
  pub value_itself : (v : Value) → same_value v v ≡ true
  value_itself (Integer i) = int_itself i
  value_itself (Atom a) = text_itself a
  value_itself (Tuple vs) = values_itself vs
  value_itself Nil = refl
  value_itself (Cons u v) = both_true (same_value u u) (same_value v v) (value_itself u) (value_itself v)
  value_itself (BitString a) = bits_itself a
  value_itself (Pid i) = number_itself i
  value_itself (Port i) = number_itself i
  value_itself (Reference i) = number_itself i
  value_itself (Local f a) = both_true (bytes_eq f f) (a == a) (text_itself f) (number_itself a)
  value_itself (External m f a) = both_true (bytes_eq m m && bytes_eq f f) (a == a) (both_true (bytes_eq m m) (bytes_eq f f) (text_itself m) (text_itself f)) (number_itself a)
  value_itself (Made i a) = both_true (i == i) (a == a) (number_itself i) (number_itself a)

  values_itself : (vs : Values) → same_values vs vs ≡ true
  values_itself none = refl
  values_itself (some v vs) = both_true (same_value v v) (same_values vs vs) (value_itself v) (values_itself vs)

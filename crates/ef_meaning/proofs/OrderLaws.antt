-- The order of terms is total, and tells values apart.
use Rattle.std.proofs.Common.{◌≡◌, ℕ, ◌⊎◌, inl, inr, Bool, true, false, List, [], ◌∷◌, refl, sym, ap, ◌∙◌, arith}
use Rattle.std.specs.Cmp.{IsTotalOrder, bool_cmp_total, then_flip}
use Rattle.std.specs.Cmp.Lexicographic.{slice_cmp}
use Rattle.std.specs.Ordering.{nat_cmp, bool_cmp, ordering_then, ordering_reverse}
use Rattle.std.specs.declared.cmp.Ordering.{Ordering}
use Rattle.std.specs.declared.cmp.Ordering.TheVariants.{Less, Equal, Greater}
use Rattle.std.proofs.lemmas.Cmp.{on_total, then_total, lists_total, nat_cmp_total, int_cmp_total, nat_list_cmp_total}
use Rattle.std.proofs.lemmas.Map.Lookups.{exact_unsigned, exact_signed, exact_bytes}
use Rattle.ef_meaning.specs.Value.{Value, Values, Integer, Atom, Tuple, Nil, Cons, BitString, Pid, Port, Reference, Local, External, Made, none, some}
use Rattle.ef_meaning.specs.Order.{kind, size, compare, compare_all}
use Rattle.ef_meaning.specs.Laws.{ValuesOrdered}

-- ---- one comparison after another

then_equal : (a b : Ordering) → ordering_then a b ≡ Equal → (a ≡ Equal) × (b ≡ Equal)
then_equal Less b p = absurd cc
then_equal Equal b p = (refl, p)
then_equal Greater b p = absurd cc

then_less : (a b : Ordering) → ordering_then a b ≡ Less → (a ≡ Less) ⊎ ((a ≡ Equal) × (b ≡ Less))
then_less Less b p = inl refl
then_less Equal b p = inr (refl, p)
then_less Greater b p = absurd cc

then_trans : (a1 a2 a3 b1 b2 b3 : Ordering) → (a1 ≡ Less → a2 ≡ Less → a3 ≡ Less) → (a1 ≡ Equal → a3 ≡ a2) → (a2 ≡ Equal → a3 ≡ a1) → (b1 ≡ Less → b2 ≡ Less → b3 ≡ Less) →
    ordering_then a1 b1 ≡ Less → ordering_then a2 b2 ≡ Less → ordering_then a3 b3 ≡ Less
then_trans a1 a2 a3 b1 b2 b3 t left right u p q = by (then_less a1 b1 p) (then_less a2 b2 q)
  where
    less : a3 ≡ Less → ordering_then a3 b3 ≡ Less
    less e = ap (λ o. ordering_then o b3) e

    by : (a1 ≡ Less) ⊎ ((a1 ≡ Equal) × (b1 ≡ Less)) → (a2 ≡ Less) ⊎ ((a2 ≡ Equal) × (b2 ≡ Less)) → ordering_then a3 b3 ≡ Less
    by (inl x) (inl y) = less (t x y)
    by (inl x) (inr y) = less (right y.0 ∙ x)
    by (inr x) (inl y) = less (left x.0 ∙ y)
    by (inr x) (inr y) = ap (λ o. ordering_then o b3) (left x.0 ∙ y.0) ∙ u x.1 y.1

then_reversed : (a b c d : Ordering) → a ≡ ordering_reverse b → c ≡ ordering_reverse d → ordering_then a c ≡ ordering_reverse (ordering_then b d)
then_reversed a b c d p q = (λ i. ordering_then (p i) (q i)) ∙ then_flip b d

-- ---- texts, bits and numbers

bool_exact : (a b : Bool) → bool_cmp a b ≡ Equal → a ≡ b
bool_exact false false p = refl
bool_exact false true p = absurd cc
bool_exact true false p = absurd cc
bool_exact true true p = refl

bits_exact : (a b : List Bool) → slice_cmp bool_cmp a b ≡ Equal → a ≡ b
bits_exact [] [] p = refl
bits_exact [] (y ∷ b) p = absurd cc
bits_exact (x ∷ a) [] p = absurd cc
bits_exact (x ∷ a) (y ∷ b) p = let parts = then_equal (bool_cmp x y) (slice_cmp bool_cmp a b) p in λ i. bool_exact x y parts.0 i ∷ bits_exact a b parts.1 i

-- the name and the number of parameters of a function
abbrev local_cmp : List ℕ × ℕ → List ℕ × ℕ → Ordering
local_cmp a b = ordering_then (slice_cmp nat_cmp a.0 b.0) (nat_cmp a.1 b.1)

local_total : IsTotalOrder local_cmp
local_total = then_total (on_total (λ (a : List ℕ × ℕ). a.0) nat_list_cmp_total) (on_total (λ (a : List ℕ × ℕ). a.1) nat_cmp_total)

abbrev external_cmp : List ℕ × List ℕ × ℕ → List ℕ × List ℕ × ℕ → Ordering
external_cmp a b = ordering_then (ordering_then (slice_cmp nat_cmp a.0 b.0) (slice_cmp nat_cmp a.1 b.1)) (nat_cmp a.2 b.2)

external_total : IsTotalOrder external_cmp
external_total = then_total (then_total (on_total (λ (a : List ℕ × List ℕ × ℕ). a.0) nat_list_cmp_total) (on_total (λ (a : List ℕ × List ℕ × ℕ). a.1) nat_list_cmp_total)) (on_total (λ (a : List ℕ × List ℕ × ℕ). a.2) nat_cmp_total)

abbrev made_cmp : ℕ × ℕ → ℕ × ℕ → Ordering
made_cmp a b = ordering_then (nat_cmp a.0 b.0) (nat_cmp a.1 b.1)

made_total : IsTotalOrder made_cmp
made_total = then_total (on_total (λ (a : ℕ × ℕ). a.0) nat_cmp_total) (on_total (λ (a : ℕ × ℕ). a.1) nat_cmp_total)

bits_total : IsTotalOrder (slice_cmp bool_cmp)
bits_total = lists_total bool_cmp_total

-- ---- values that compare equal are the same

mutual
  pub value_exact : (u v : Value) → compare u v ≡ Equal → u ≡ v
  value_exact (Integer i) (Integer j) p = ap Integer (exact_signed i j p)
  value_exact (Atom a) (Atom b) p = ap Atom (exact_bytes a b p)
  value_exact (Reference i) (Reference j) p = ap Reference (exact_unsigned i j p)
  value_exact (Local f a) (Local g b) p = let parts = then_equal (slice_cmp nat_cmp f g) (nat_cmp a b) p in λ i. Local (exact_bytes f g parts.0 i) (exact_unsigned a b parts.1 i)
  value_exact (External m f a) (External n g b) p =
      let parts = then_equal (ordering_then (slice_cmp nat_cmp m n) (slice_cmp nat_cmp f g)) (nat_cmp a b) p in
      let names = then_equal (slice_cmp nat_cmp m n) (slice_cmp nat_cmp f g) parts.0 in
      λ i. External (exact_bytes m n names.0 i) (exact_bytes f g names.1 i) (exact_unsigned a b parts.1 i)
  value_exact (Made i a) (Made j b) p = let parts = then_equal (nat_cmp i j) (nat_cmp a b) p in λ x. Made (exact_unsigned i j parts.0 x) (exact_unsigned a b parts.1 x)
  value_exact (Port i) (Port j) p = ap Port (exact_unsigned i j p)
  value_exact (Pid i) (Pid j) p = ap Pid (exact_unsigned i j p)
  value_exact (Tuple us) (Tuple vs) p = ap Tuple (values_exact us vs (then_equal (nat_cmp (size us) (size vs)) (compare_all us vs) p).1)
  value_exact Nil Nil p = refl
  value_exact (Cons u us) (Cons v vs) p = let parts = then_equal (compare u v) (compare us vs) p in λ i. Cons (value_exact u v parts.0 i) (value_exact us vs parts.1 i)
  value_exact (BitString a) (BitString b) p = ap BitString (bits_exact a b p)
  value_exact _ _ p = absurd cc

  values_exact : (us vs : Values) → compare_all us vs ≡ Equal → us ≡ vs
  values_exact none none p = refl
  values_exact none (some v vs) p = absurd cc
  values_exact (some u us) none p = absurd cc
  values_exact (some u us) (some v vs) p = let parts = then_equal (compare u v) (compare_all us vs) p in λ i. some (value_exact u v parts.0 i) (values_exact us vs parts.1 i)

-- ---- the other way round

mutual
  value_reversed : (u v : Value) → compare u v ≡ ordering_reverse (compare v u)
  value_reversed (Integer i) (Integer j) = int_cmp_total.antisymm i j
  value_reversed (Atom a) (Atom b) = nat_list_cmp_total.antisymm a b
  value_reversed (Reference i) (Reference j) = nat_cmp_total.antisymm i j
  value_reversed (Local f a) (Local g b) = local_total.antisymm (f, a) (g, b)
  value_reversed (External m f a) (External n g b) = external_total.antisymm (m, f, a) (n, g, b)
  value_reversed (Made i a) (Made j b) = made_total.antisymm (i, a) (j, b)
  value_reversed (Port i) (Port j) = nat_cmp_total.antisymm i j
  value_reversed (Pid i) (Pid j) = nat_cmp_total.antisymm i j
  value_reversed (Tuple us) (Tuple vs) = then_reversed (nat_cmp (size us) (size vs)) (nat_cmp (size vs) (size us)) (compare_all us vs) (compare_all vs us) (nat_cmp_total.antisymm (size us) (size vs)) (values_reversed us vs)
  value_reversed (Cons u us) (Cons v vs) = then_reversed (compare u v) (compare v u) (compare us vs) (compare vs us) (value_reversed u v) (value_reversed us vs)
  value_reversed (BitString a) (BitString b) = bits_total.antisymm a b
  value_reversed Nil Nil = refl
  value_reversed _ _ = refl

  values_reversed : (us vs : Values) → compare_all us vs ≡ ordering_reverse (compare_all vs us)
  values_reversed none none = refl
  values_reversed none (some v vs) = refl
  values_reversed (some u us) none = refl
  values_reversed (some u us) (some v vs) = then_reversed (compare u v) (compare v u) (compare_all us vs) (compare_all vs us) (value_reversed u v) (values_reversed us vs)

-- ---- kinds

-- values of two kinds compare as their kinds do
by_kinds : (u v : Value) → (kind u ≡ kind v) ⊎ (compare u v ≡ nat_cmp (kind u) (kind v))
by_kinds (Integer i) (Integer j) = inl refl
by_kinds (Atom a) (Atom b) = inl refl
by_kinds (Reference i) (Reference j) = inl refl
by_kinds (Local f a) (Local g b) = inl refl
by_kinds (External m f a) (External n g b) = inl refl
by_kinds (Made i a) (Made j b) = inl refl
by_kinds (Port i) (Port j) = inl refl
by_kinds (Pid i) (Pid j) = inl refl
by_kinds (Tuple us) (Tuple vs) = inl refl
by_kinds (Cons u us) (Cons v vs) = inl refl
by_kinds (BitString a) (BitString b) = inl refl
by_kinds _ _ = inr refl

equal_itself : (o : Ordering) → o ≡ ordering_reverse o → o ≡ Equal
equal_itself Less p = absurd cc
equal_itself Equal p = refl
equal_itself Greater p = absurd cc

number_itself : (n : ℕ) → nat_cmp n n ≡ Equal
number_itself n = equal_itself (nat_cmp n n) (nat_cmp_total.antisymm n n)

less_kinds : (u v : Value) → nat_cmp (kind u) (kind v) ≡ Less → compare u v ≡ Less
less_kinds u v p = by (by_kinds u v)
  where
    by : (kind u ≡ kind v) ⊎ (compare u v ≡ nat_cmp (kind u) (kind v)) → compare u v ≡ Less
    by (inl same) = let none : Equal ≡ Less = sym (number_itself (kind v)) ∙ ap (λ k. nat_cmp k (kind v)) (sym same) ∙ p in absurd cc
    by (inr is) = is ∙ p

-- three values that are not all of one kind
kinds_trans : (u v w : Value) → (kind u ≡ kind v → kind v ≡ kind w → ⊥) → compare u v ≡ Less → compare v w ≡ Less → compare u w ≡ Less
kinds_trans u v w apart p q = less_kinds u w (by (by_kinds u v) (by_kinds v w))
  where
    by : (kind u ≡ kind v) ⊎ (compare u v ≡ nat_cmp (kind u) (kind v)) → (kind v ≡ kind w) ⊎ (compare v w ≡ nat_cmp (kind v) (kind w)) → nat_cmp (kind u) (kind w) ≡ Less
    by (inl a) (inl b) = absurd (apart a b)
    by (inl a) (inr y) = ap (λ k. nat_cmp k (kind w)) a ∙ sym y ∙ q
    by (inr x) (inl b) = ap (nat_cmp (kind u)) (sym b) ∙ sym x ∙ p
    by (inr x) (inr y) = nat_cmp_total.trans (kind u) (kind v) (kind w) (sym x ∙ p) (sym y ∙ q)

-- ---- one after the other

mutual
  value_trans : (u v w : Value) → compare u v ≡ Less → compare v w ≡ Less → compare u w ≡ Less
  value_trans (Integer i) (Integer j) (Integer k) p q = int_cmp_total.trans i j k p q
  value_trans (Atom a) (Atom b) (Atom c) p q = nat_list_cmp_total.trans a b c p q
  value_trans (Reference i) (Reference j) (Reference k) p q = nat_cmp_total.trans i j k p q
  value_trans (Local f a) (Local g b) (Local h c) p q = local_total.trans (f, a) (g, b) (h, c) p q
  value_trans (External m f a) (External n g b) (External o h c) p q = external_total.trans (m, f, a) (n, g, b) (o, h, c) p q
  value_trans (Made i a) (Made j b) (Made k c) p q = made_total.trans (i, a) (j, b) (k, c) p q
  value_trans (Port i) (Port j) (Port k) p q = nat_cmp_total.trans i j k p q
  value_trans (Pid i) (Pid j) (Pid k) p q = nat_cmp_total.trans i j k p q
  value_trans (Tuple us) (Tuple vs) (Tuple ws) p q =
      then_trans (nat_cmp (size us) (size vs)) (nat_cmp (size vs) (size ws)) (nat_cmp (size us) (size ws)) (compare_all us vs) (compare_all vs ws) (compare_all us ws)
      (nat_cmp_total.trans (size us) (size vs) (size ws)) (nat_cmp_total.congr (size us) (size vs) (size ws)) (λ e. ap (nat_cmp (size us)) (sym (exact_unsigned (size vs) (size ws) e))) (values_trans us vs ws) p q
  value_trans (Cons u us) (Cons v vs) (Cons w ws) p q =
      then_trans (compare u v) (compare v w) (compare u w) (compare us vs) (compare vs ws) (compare us ws)
      (value_trans u v w) (λ e. ap (λ z. compare z w) (value_exact u v e)) (λ e. ap (compare u) (sym (value_exact v w e))) (value_trans us vs ws) p q
  value_trans (BitString a) (BitString b) (BitString c) p q = bits_total.trans a b c p q
  value_trans Nil Nil Nil p q = absurd cc
  value_trans u v w p q = kinds_trans u v w (λ a b. absurd (omega arith)) p q

  values_trans : (us vs ws : Values) → compare_all us vs ≡ Less → compare_all vs ws ≡ Less → compare_all us ws ≡ Less
  values_trans none none ws p q = absurd cc
  values_trans none (some v vs) none p q = absurd cc
  values_trans none (some v vs) (some w ws) p q = refl
  values_trans (some u us) none ws p q = absurd cc
  values_trans (some u us) (some v vs) none p q = absurd cc
  values_trans (some u us) (some v vs) (some w ws) p q =
      then_trans (compare u v) (compare v w) (compare u w) (compare_all us vs) (compare_all vs ws) (compare_all us ws)
      (value_trans u v w) (λ e. ap (λ z. compare z w) (value_exact u v e)) (λ e. ap (compare u) (sym (value_exact v w e))) (values_trans us vs ws) p q

pub compare_total : IsTotalOrder compare
compare_total = record { antisymm = value_reversed; trans = value_trans; congr = λ u v w e. ap (λ z. compare z w) (value_exact u v e) }

pub values_ordered : ValuesOrdered
values_ordered = record { total = compare_total; same = value_exact; itself = λ v. equal_itself (compare v v) (value_reversed v v) }

-- What is pushed to a fault list is a set: neither the order of the pushes counts nor a second push of an equal fault.
use Rattle.std.specs.Prelude.{ℕ, List, [], ◌∷◌, ◌++◌, ◌≡◌, refl}
use Rattle.std.proofs.Common.{ap, ◌∙◌, sym}
use Rattle.std.specs.BTreeSet.{insert_key}
use Rattle.std.specs.Cmp.{IsTotalOrder, tied_itself}
use Rattle.std.specs.Ordering.{nat_cmp, ordering_then, ordering_reverse, match_ordering, is_eq}
use Rattle.std.specs.Cmp.Lexicographic.{slice_cmp}
use Rattle.std.specs.declared.cmp.Ordering.{Ordering}
use Rattle.std.specs.declared.cmp.Ordering.TheVariants.{Less, Equal, Greater}
use Rattle.std.proofs.lemmas.Cmp.{ranked}
use Rattle.std.proofs.lemmas.Map.Text.{is_eq-slice_cmp}
use Rattle.std.proofs.lemmas.Slice.Eq.{bytes_eq-Decides}
use Rattle.ef_base.specs.declared.fault.Place.{Place}
use Rattle.ef_base.specs.declared.fault.Fault.{Fault}
use Rattle.ef_base.specs.Faults.{insert_fault, set_of}
use Rattle.ef_base.specs.Order.{place_cmp, fault_cmp, fault_total}
use Rattle.ef_base.proofs.Sorted.{set_of-sorted, sorted_set_of}

-- ---- over any order that tells all apart

insert_at : {K : Type 0} (R : K → K → Ordering) (x y : K) (ys : List K) (c : Ordering) → R x y ≡ c → insert_key R (y ∷ ys) x ≡ match_ordering c (x ∷ y ∷ ys) (y ∷ ys) (y ∷ insert_key R ys x)
insert_at R x y ys c is = ap (λ o. match_ordering o (x ∷ y ∷ ys) (y ∷ ys) (y ∷ insert_key R ys x)) is

turned : (c d : Ordering) → c ≡ ordering_reverse d → d ≡ Less → c ≡ Greater
turned c d is less = is ∙ ap ordering_reverse less

module _ {K : Type 0} {R : K → K → Ordering} (o : IsTotalOrder R) where
  once : (x : K) (ys : List K) → insert_key R (insert_key R ys x) x ≡ insert_key R ys x
  once x [] = insert_at R x x [] Equal (tied_itself o x)
  once x (y ∷ ys) =
      elim (R x y) as (λ c. R x y ≡ c → insert_key R (match_ordering c (x ∷ y ∷ ys) (y ∷ ys) (y ∷ insert_key R ys x)) x ≡ match_ordering c (x ∷ y ∷ ys) (y ∷ ys) (y ∷ insert_key R ys x)) [
        | Less ↦ λ is. insert_at R x x (y ∷ ys) Equal (tied_itself o x)
        | Equal ↦ λ is. insert_at R x y ys Equal is
        | Greater ↦ λ is. insert_at R x y (insert_key R ys x) Greater is ∙ ap (λ l. y ∷ l) (once x ys)
      ] refl

  -- a lesser and a greater
  ordered : (a b : K) (ys : List K) → R a b ≡ Less → insert_key R (insert_key R ys b) a ≡ insert_key R (insert_key R ys a) b
  ordered a b [] less =
      insert_at R a b [] Less less ∙ sym (insert_at R b a [] Greater (turned (R b a) (R a b) (o.antisymm b a) less))
  ordered a b (y ∷ ys) less =
      elim (R b y) as (λ c. R b y ≡ c → insert_key R (match_ordering c (b ∷ y ∷ ys) (y ∷ ys) (y ∷ insert_key R ys b)) a ≡ insert_key R (insert_key R (y ∷ ys) a) b) [
        | Less ↦ λ is.
            let a_y : R a y ≡ Less = o.trans a b y less is in
            insert_at R a b (y ∷ ys) Less less
            ∙ sym (ap (λ l. insert_key R l b) (insert_at R a y ys Less a_y) ∙ insert_at R b a (y ∷ ys) Greater b_a ∙ ap (λ l. a ∷ l) (insert_at R b y ys Less is))
        | Equal ↦ λ is.
            let a_y : R a y ≡ Less = sym (alike b y is) ∙ less in
            insert_at R a y ys Less a_y
            ∙ sym (ap (λ l. insert_key R l b) (insert_at R a y ys Less a_y) ∙ insert_at R b a (y ∷ ys) Greater b_a ∙ ap (λ l. a ∷ l) (insert_at R b y ys Equal is))
        | Greater ↦ λ is.
            elim (R a y) as (λ c. R a y ≡ c → insert_key R (y ∷ insert_key R ys b) a ≡ insert_key R (match_ordering c (a ∷ y ∷ ys) (y ∷ ys) (y ∷ insert_key R ys a)) b) [
              | Less ↦ λ at. insert_at R a y (insert_key R ys b) Less at ∙ sym (insert_at R b a (y ∷ ys) Greater b_a ∙ ap (λ l. a ∷ l) (insert_at R b y ys Greater is))
              | Equal ↦ λ at. insert_at R a y (insert_key R ys b) Equal at ∙ sym (insert_at R b y ys Greater is)
              | Greater ↦ λ at. insert_at R a y (insert_key R ys b) Greater at ∙ ap (λ l. y ∷ l) (ordered a b ys less) ∙ sym (insert_at R b y (insert_key R ys a) Greater is)
            ] refl
      ] refl
    where
      b_a : R b a ≡ Greater
      b_a = turned (R b a) (R a b) (o.antisymm b a) less

      alike : (b y : K) → R b y ≡ Equal → R a b ≡ R a y
      alike b y is = o.antisymm a b ∙ ap ordering_reverse (o.congr b y a is) ∙ sym (o.antisymm a y)

  -- in either order
  swapped : ((x y : K) → R x y ≡ Equal → x ≡ y) → (a b : K) (ys : List K) → insert_key R (insert_key R ys b) a ≡ insert_key R (insert_key R ys a) b
  swapped apart a b ys =
      elim (R a b) as (λ c. R a b ≡ c → insert_key R (insert_key R ys b) a ≡ insert_key R (insert_key R ys a) b) [
        | Less ↦ λ is. ordered a b ys is
        | Equal ↦ λ is. ap (λ z. insert_key R (insert_key R ys b) z) (apart a b is) ∙ ap (λ z. insert_key R (insert_key R ys z) b) (sym (apart a b is))
        | Greater ↦ λ is. sym (ordered b a ys (o.antisymm b a ∙ ap ordering_reverse is))
      ] refl

-- ---- faults

both_equal : (a b : Ordering) → ordering_then a b ≡ Equal → (a ≡ Equal) × (b ≡ Equal)
both_equal Less b is = cc
both_equal Equal b is = (refl, is)
both_equal Greater b is = cc

same_number : (x y : ℕ) → nat_cmp x y ≡ Equal → x ≡ y
same_number x y is = ranked x y Equal (sym is)

same_words : (xs ys : List ℕ) → slice_cmp nat_cmp xs ys ≡ Equal → xs ≡ ys
same_words xs ys is = (bytes_eq-Decides xs ys).0 (sym (is_eq-slice_cmp xs ys) ∙ ap is_eq is)

same_place : (a b : Place) → place_cmp a b ≡ Equal → a ≡ b
same_place a b is =
    let outer = both_equal _ _ is in
    let inner = both_equal _ _ outer.0 in
    let file : a.file ≡ b.file = same_number a.file b.file inner.0 in
    let line : a.line ≡ b.line = same_number a.line b.line inner.1 in
    let column : a.column ≡ b.column = same_number a.column b.column outer.1 in
    λ i. record { file = file i; line = line i; column = column i }

pub same_fault : (a b : Fault) → fault_cmp a b ≡ Equal → a ≡ b
same_fault a b is =
    let outer = both_equal _ _ is in
    let inner = both_equal _ _ outer.0 in
    let place : a.place ≡ b.place = same_place a.place b.place inner.0 in
    let code : a.code ≡ b.code = same_number a.code b.code inner.1 in
    let words : a.words ≡ b.words = same_words a.words b.words outer.1 in
    λ i. record { place = place i; code = code i; words = words i }

-- a second push of an equal fault changes nothing
pub insert_twice : (f : Fault) (l : List Fault) → insert_fault f (insert_fault f l) ≡ insert_fault f l
insert_twice f l = once fault_total f l

-- the order of pushes does not count
pub insert_swapped : (f g : Fault) (l : List Fault) → insert_fault f (insert_fault g l) ≡ insert_fault g (insert_fault f l)
insert_swapped f g l = swapped fault_total same_fault f g l

-- one more push, behind those of a list
pub set_of-push : (fs : List Fault) (f : Fault) → insert_fault f (set_of fs) ≡ set_of (fs ++ f ∷ [])
set_of-push [] f = refl
set_of-push (g ∷ fs) f = insert_swapped f g (set_of fs) ∙ ap (insert_fault g) (set_of-push fs f)

-- pushing a set is pushing the list that it was made of
pub set_of-append : (fs gs : List Fault) → set_of (fs ++ set_of gs) ≡ set_of (fs ++ gs)
set_of-append [] gs = set_of-sorted (set_of gs) (sorted_set_of gs)
set_of-append (f ∷ fs) gs = ap (insert_fault f) (set_of-append fs gs)

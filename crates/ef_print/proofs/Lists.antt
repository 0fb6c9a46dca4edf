-- Lists that are printed one element behind another.
use Rattle.std.proofs.Common.{◌≡◌, ◌≤◌, ◌<◌, ◌+◌, ◌-◌, ◌*◌, ℕ, zero, suc, true, List, [], ◌∷◌, ◌++◌, length, get_or, take, drop, Result, refl, sym, ap, ◌∙◌, subst, arith, add-one, length-drop, mul-le-mul_left}
use Rattle.std.proofs.Math.Seq.{drop-cons}
use Rattle.std.proofs.lemmas.List.{drop_all, take_all}
use denote.Param.Weighed.{most, at_most}
use Rattle.ef_core.specs.declared.layout.Last.{Last}
use Rattle.ef_core.specs.Pieces.{Piece}
use Rattle.ef_io.specs.declared.sink.Failed.{Failed}
use Rattle.ef_io.specs.Sink.{SinkView}
use Rattle.ef_print.specs.Prints.{Prints}
use Rattle.ef_print.proofs.Written.{◌▸◌, prints_none, prints_as}

-- the pieces of an element and of a list, and that their names are of the table
pub record Row (A : Type 0) : Type 1 where
  pub one : A → List Piece
  pub all : List A → List Piece
  pub Named : A → Type 0
  pub AllNamed : List A → Type 0
  pub empty_is : all [] ≡ []
  pub next_is : (x : A) (xs : List A) → all (x ∷ xs) ≡ one x ++ all xs
  pub next_named : (x : A) (xs : List A) → AllNamed (x ∷ xs) → Named x × AllNamed xs

-- a list is printed up to an index: once the rest is printed, all is printed
pub record Goes {A : Type 0} (row : Row A) (old : SinkView) (r : Result Last Failed) (xs : List A) (i : ℕ) (mid : SinkView) (q : Result Last Failed) : Type 0 where
  pub is_open : mid.is_open ≡ true
  pub leads : (new : SinkView) (now : Result Last Failed) → Prints mid q (row.all (drop i xs)) new now → Prints old r (row.all xs) new now

drop_at : {A : Type 0} (xs : List A) (i : ℕ) (x : A) → i < length xs → x ≡ get_or xs i x → drop i xs ≡ x ∷ drop (i + 1) xs
drop_at xs i x small read =
    drop-cons xs i x small ∙ ap (λ z. z ∷ drop (suc i) xs) (sym read) ∙ ap (λ n. x ∷ drop n xs) (sym (add-one i))

module _ {A : Type 0} {row : Row A} {old : SinkView} {r : Result Last Failed} {xs : List A} {i : ℕ} {mid : SinkView} {q : Result Last Failed} (before : Goes row old r xs i mid q) where
  -- one more element
  pub goes_more : {new : SinkView} {t : Result Last Failed} (x : A) → i < length xs → x ≡ get_or xs i x → Prints mid q (row.one x) new t → new.is_open ≡ true → Goes row old r xs (i + 1) new t
  goes_more {new} {t} x small read one is_open = record {
    is_open = is_open;
    leads = λ end now rest.
        before.leads end now (prints_as (sym (ap row.all (drop_at xs i x small read) ∙ row.next_is x (drop (i + 1) xs))) (one ▸ rest));
  }

  -- no more elements
  pub goes_end : length xs ≤ i → Prints old r (row.all xs) mid q
  goes_end over =
      before.leads mid q (prints_as (sym (ap row.all (drop_all i xs over) ∙ row.empty_is)) (prints_none mid q))

-- ---- what holds of each element

module _ {A : Type 0} (row : Row A) where
  pub named_at : (xs : List A) (i : ℕ) (x : A) → row.AllNamed xs → i < length xs → x ≡ get_or xs i x → row.Named x
  named_at [] i x all small read = absurd (omega arith)
  named_at (y ∷ xs) zero x all small read = subst row.Named (sym read) (row.next_named y xs all).0
  named_at (y ∷ xs) (suc i) x all small read = named_at xs i x (row.next_named y xs all).1 (omega arith) read

  -- of those behind the first
  pub named_behind : (xs : List A) (i : ℕ) (x : A) → row.AllNamed xs → i < length (take (length xs - 1) (drop 1 xs)) → x ≡ get_or (take (length xs - 1) (drop 1 xs)) i x → row.Named x
  named_behind [] i x all small read = absurd (omega arith)
  named_behind (y ∷ xs) i x all small read =
      let whole : take (length (y ∷ xs) - 1) (drop 1 (y ∷ xs)) ≡ xs = take_all (length (y ∷ xs) - 1) xs (omega arith) in
      named_at xs i x (row.next_named y xs all).1 (subst (λ l. i < length l) whole small) (subst (λ l. x ≡ get_or l i x) whole read)

-- the first element, and those behind it
pub from_first : {A : Type 0} (xs : List A) (x : A) → 1 ≤ length xs → x ≡ get_or xs 0 x → x ∷ take (length xs - 1) (drop 1 xs) ≡ xs
from_first xs x some read =
    let whole : take (length xs - 1) (drop 1 xs) ≡ drop 1 xs = take_all (length xs - 1) (drop 1 xs) (omega (arith, length-drop 1 xs)) in
    ap (λ rest. x ∷ rest) whole ∙ sym (drop-cons xs 0 x some ∙ ap (λ z. z ∷ drop 1 xs) (sym read))

-- an element that is read in its bounds does not depend on what stands for none
pub read_at : {A : Type 0} (xs : List A) (i : ℕ) (d : A) → i < length xs → get_or xs i d ≡ get_or xs i (get_or xs i d)
read_at [] i d small = absurd (omega arith)
read_at (x ∷ xs) zero d small = refl
read_at (x ∷ xs) (suc i) d small = read_at xs i d (omega arith)

-- ---- an element is no larger than the largest one

module _ {A : Type 0} (size : A → ℕ) where
  falls : (k a b m n t : ℕ) → a < b → m ≤ n → k * n + b ≡ t → k * m + a < t
  falls k a b m n t less le all = let times : k * m ≤ k * n = mul-le-mul_left k le in omega arith

  pub item_falls : (k a b : ℕ) (xs : List A) (i : ℕ) (x : A) (t : ℕ) → i < length xs → x ≡ get_or xs i x → k * most size xs + b ≡ t → a < b → k * size x + a < t
  item_falls k a b xs i x t small read all less =
      falls k a b (size x) (most size xs) t less (subst (λ z. size z ≤ most size xs) (sym read) (at_most size xs i x small)) all

  pub behind_falls : (k a b : ℕ) (xs : List A) (i : ℕ) (x : A) (t : ℕ) → i < length (take (length xs - 1) (drop 1 xs)) → x ≡ get_or (take (length xs - 1) (drop 1 xs)) i x → k * most size xs + b ≡ t → a < b → k * size x + a < t
  behind_falls k a b [] i x t small read all less = absurd (omega arith)
  behind_falls k a b (y ∷ xs) i x t small read all less =
      let whole : take (length (y ∷ xs) - 1) (drop 1 (y ∷ xs)) ≡ xs = take_all (length (y ∷ xs) - 1) xs (omega arith) in
      let le : size x ≤ most size xs = subst (λ z. size z ≤ most size xs) (sym (subst (λ l. x ≡ get_or l i x) whole read)) (at_most size xs i x (subst (λ l. i < length l) whole small)) in
      falls k a b (size x) (most size (y ∷ xs)) t less (omega arith) all

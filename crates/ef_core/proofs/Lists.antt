-- Lists from a place on.
use Rattle.std.proofs.Common.{◌≡◌, ℕ, zero, suc, ◌+◌, ◌<◌, length, get_or, slice_get, drop, map, List, [], ◌∷◌, ◌++◌, Some, sym, ap, ◌∙◌, append_assoc, add-one}
use Rattle.std.proofs.Math.Seq.{drop-cons}

pub drop_at : {A : Type 0} (xs : List A) (i : ℕ) (x : A) → i < length xs → x ≡ get_or xs i x → drop i xs ≡ x ∷ drop (i + 1) xs
drop_at xs i x small read =
    drop-cons xs i x small ∙ ap (λ z. z ∷ drop (suc i) xs) (sym read) ∙ ap (λ n. x ∷ drop n xs) (sym (add-one i))

-- an element that is mapped, and those behind it
mapped_next : {A B : Type 0} (f : A → B) (xs : List A) (i : ℕ) (x : A) → slice_get xs i ≡ Some x → drop i (map f xs) ≡ f x ∷ drop (suc i) (map f xs)
mapped_next f [] i x is = absurd cc
mapped_next f (y ∷ xs) zero x is = let same : y ≡ x = cc in ap (λ z. f z ∷ map f xs) same
mapped_next f (y ∷ xs) (suc i) x is = mapped_next f xs i x is

pub mapped_at : {A B : Type 0} (f : A → B) (xs : List A) (i : ℕ) (x : A) → slice_get xs i ≡ Some x → drop i (map f xs) ≡ f x ∷ drop (i + 1) (map f xs)
mapped_at f xs i x is = mapped_next f xs i x is ∙ ap (λ n. f x ∷ drop n (map f xs)) (sym (add-one i))

pub push_before : {A : Type 0} (xs all : List A) (x : A) (rest front new : List A) → new ≡ xs ++ x ∷ [] → front ≡ x ∷ rest → xs ++ front ≡ all → new ++ rest ≡ all
push_before xs all x rest front new pushed next is = ap (λ l. l ++ rest) pushed ∙ append_assoc xs (x ∷ []) rest ∙ ap (λ l. xs ++ l) (sym next) ∙ is

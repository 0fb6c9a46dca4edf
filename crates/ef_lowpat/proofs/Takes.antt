-- The front of a list of trees, one element after another.
use Rattle.std.proofs.Common.{◌≡◌, ◌<◌, ◌≤◌, ◌+◌, ◌*◌, ℕ, zero, suc, List, [], ◌∷◌, ◌++◌, length, get_or, map, take, sym, ap, ◌∙◌, subst, arith, add-one}
use Rattle.std.proofs.lemmas.List.{map-append, take_more}
use denote.Param.Weighed.{most, at_most}
use Rattle.ef_forms.specs.declared.expr.Expr.{Expr}
use Rattle.ef_forms.specs.Plain.{plain, plain_all}
use Rattle.ef_forms.specs.Weight.{weight, all_weight}

-- one more of what is made of the elements
pub take_next : {A B : Type 0} (f : A → B) (xs : List A) (i : ℕ) (x : A) → i < length xs → x ≡ get_or xs i x → map f (take (i + 1) xs) ≡ map f (take i xs) ++ f x ∷ []
take_next f xs i x small read =
    ap (map f) (take_more xs i x small ∙ ap (λ y. take i xs ++ y ∷ []) (sym read)) ∙ map-append f (take i xs) (x ∷ [])

next_weight : (es : List Expr) (i : ℕ) (e : Expr) → i < length es → e ≡ get_or es i e → all_weight (plain_all (take (suc i) es)) ≡ all_weight (plain_all (take i es)) + weight (plain e)
next_weight [] i e small read = absurd (omega arith)
next_weight (y ∷ es) zero e small read = rw read (omega arith)
next_weight (y ∷ es) (suc i) e small read = let rest = next_weight es i e (omega arith) read in omega arith

pub take_weight : (es : List Expr) (i : ℕ) (e : Expr) → i < length es → e ≡ get_or es i e → all_weight (plain_all (take (i + 1) es)) ≡ all_weight (plain_all (take i es)) + weight (plain e)
take_weight es i e small read = ap (λ n. all_weight (plain_all (take n es))) (add-one i) ∙ next_weight es i e small read

pub take_within : (es : List Expr) (i : ℕ) → all_weight (plain_all (take i es)) ≤ all_weight (plain_all es)
take_within [] zero = omega arith
take_within [] (suc i) = omega arith
take_within (y ∷ es) zero = omega arith
take_within (y ∷ es) (suc i) = let rest = take_within es i in omega arith

-- an element is no larger than the largest one
pub item_falls : {A : Type 0} (size : A → ℕ) (xs : List A) (i : ℕ) (x : A) (t : ℕ) → i < length xs → x ≡ get_or xs i x → 2 * most size xs + 1 ≡ t → 2 * size x + 0 < t
item_falls size xs i x t small read all =
    let le : size x ≤ most size xs = subst (λ z. size z ≤ most size xs) (sym read) (at_most size xs i x small) in
    omega arith

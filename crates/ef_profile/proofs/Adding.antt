-- Faults that are added to a set, one after another.
use Rattle.std.proofs.Common.{◌≡◌, ℕ, ◌<◌, ◌≤◌, ◌+◌, List, [], ◌∷◌, ◌++◌, length, take, get_or, refl, sym, ap, ◌∙◌, subst, append_assoc, append-nil, add-one, map}
use Rattle.std.specs.List.{flat_map}
use Rattle.std.proofs.lemmas.Grind.{flat_map-append}
use Rattle.std.proofs.lemmas.List.{take_all}
use Rattle.std.proofs.Math.Seq.{take-suc}
use Rattle.ef_base.specs.declared.fault.Fault.{Fault}
use Rattle.ef_base.specs.Faults.{set_of, insert_fault}
use Rattle.ef_base.proofs.FaultLaws.{set_of-push}
use Rattle.ef_profile.specs.Adds.{Adds}

pub adds_none : (l : List Fault) → Adds [] l l
adds_none l before is = is ∙ ap set_of (sym (append-nil before))

pub adds_then : (old mid new a b : List Fault) → Adds a old mid → Adds b mid new → Adds (a ++ b) old new
adds_then old mid new a b one two before is = two (before ++ a) (one before is) ∙ ap set_of (append_assoc before a b)

pub adds_one : (old new : List Fault) (f : Fault) → new ≡ insert_fault f old → Adds (f ∷ []) old new
adds_one old new f pushed before is = pushed ∙ ap (insert_fault f) is ∙ set_of-push before f

-- the part of one more element
flat_more : {A : Type 0} (f : A → List Fault) (xs : List A) (i : ℕ) (d : A) → i < length xs → flat_map f (take (i + 1) xs) ≡ flat_map f (take i xs) ++ f (get_or xs i d)
flat_more f xs i d within =
    ap (λ k. flat_map f (take k xs)) (add-one i) ∙ ap (flat_map f) (take-suc xs i d within) ∙ flat_map-append f (take i xs) (get_or xs i d ∷ [])
    ∙ ap (λ l. flat_map f (take i xs) ++ l) (append-nil (f (get_or xs i d)))

-- what a loop adds at one more element
pub adds_at : {A : Type 0} (f : A → List Fault) (xs : List A) (i : ℕ) (d : A) (old mid new : List Fault) → i < length xs
    → Adds (flat_map f (take i xs)) old mid → Adds (f (get_or xs i d)) mid new → Adds (flat_map f (take (i + 1) xs)) old new
adds_at f xs i d old mid new within one two = subst (λ l. Adds l old new) (sym (flat_more f xs i d within)) (adds_then old mid new (flat_map f (take i xs)) (f (get_or xs i d)) one two)

pub adds_more : {A : Type 0} (f : A → List Fault) (xs : List A) (i : ℕ) (x : A) (old mid new : List Fault) → i < length xs → x ≡ get_or xs i x
    → Adds (flat_map f (take i xs)) old mid → Adds (f x) mid new → Adds (flat_map f (take (i + 1) xs)) old new
adds_more f xs i x old mid new within is one two = adds_at f xs i x old mid new within one (subst (λ y. Adds (f y) mid new) is two)

-- and in the end
pub adds_all : {A : Type 0} (f : A → List Fault) (xs : List A) (i : ℕ) (old new : List Fault) → length xs ≤ i → Adds (flat_map f (take i xs)) old new → Adds (flat_map f xs) old new
adds_all f xs i old new done all = subst (λ l. Adds (flat_map f l) old new) (take_all i xs done) all

pub flat_map-map : {A B : Type 0} (f : B → List Fault) (g : A → B) (xs : List A) → flat_map f (map g xs) ≡ flat_map (λ x. f (g x)) xs
flat_map-map f g [] = refl
flat_map-map f g (x ∷ xs) = ap (λ l. f (g x) ++ l) (flat_map-map f g xs)

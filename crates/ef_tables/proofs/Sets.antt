-- What a search of keys shows of the functions.
use Rattle.std.proofs.Common.{◌≡◌, ℕ, Bool, true, false, cond, List, [], ◌∷◌, ◌++◌, refl, ap, ◌∙◌, sym, map, ◌⊎◌, inl, inr, nat_eq, subst, length, take, drop, get_or, ◌<◌, ◌+◌, suc, add-one}
use Rattle.std.specs.Prelude.{◌&&◌, ◌||◌, IsTrue, ◌↔◌, not}
use Rattle.std.specs.List.{list_any}
use Rattle.std.proofs.lemmas.List.{map-append, take-append-drop}
use Rattle.std.proofs.Math.Seq.{take-suc, drop-cons}
use Rattle.std.proofs.lemmas.Bool.Decides.{nat_tests}
use Rattle.std.proofs.Common.{arith}
use Rattle.ef_forms.specs.declared.tables.FunctionName.{FunctionName}
use Rattle.ef_forms.specs.Built.{IsAmong, IsDistinct}
use Rattle.ef_tables.specs.Sets.{function_of, Inserts}

-- the test by which the set looks for a function
abbrev pub is_key : FunctionName → ℕ × ℕ → Bool
is_key f key = nat_eq f.name.index key.0 && nat_eq f.arity key.1

both : (a b : Bool) → (a && b) ≡ true → (a ≡ true) × (b ≡ true)
both true b h = (refl, h)
both false b h = absurd (cc)

same_key : (f : FunctionName) (key : ℕ × ℕ) → is_key f key ≡ true → function_of key ≡ f
same_key f key h =
    let parts = both (nat_eq f.name.index key.0) (nat_eq f.arity key.1) h in
    let one : nat_eq f.name.index key.0 ≡ true = parts.0 in
    let two : nat_eq f.arity key.1 ≡ true = parts.1 in
    let index : key.0 ≡ f.name.index = grind (arith, nat_tests) in
    let arity : key.1 ≡ f.arity = grind (arith, nat_tests) in
    λ i. record { name = record { index = index i }; arity = arity i }

own_key : (key : ℕ × ℕ) → is_key (function_of key) key ≡ true
own_key key = grind (arith, nat_tests)

pub found : (f : FunctionName) (keys : List (ℕ × ℕ)) → list_any (is_key f) keys ≡ true → IsAmong f (map function_of keys)
found f [] h = absurd (cc)
found f (key ∷ keys) h =
    elim (is_key f key) as (λ b. is_key f key ≡ b → (b || list_any (is_key f) keys) ≡ true → (function_of key ≡ f) ⊎ IsAmong f (map function_of keys)) [
      | true ↦ λ yes _. inl (same_key f key yes)
      | false ↦ λ no more. inr (found f keys more)
    ] refl h

pub there : (f : FunctionName) (keys : List (ℕ × ℕ)) → IsAmong f (map function_of keys) → list_any (is_key f) keys ≡ true
there f [] h = absurd h
there f (key ∷ keys) (inl same) =
    let own : is_key f key ≡ true = subst (λ g. is_key g key ≡ true) same (own_key key) in
    ap (λ b. b || list_any (is_key f) keys) own
there f (key ∷ keys) (inr more) =
    let rest = there f keys more in
    elim (is_key f key) as (λ b. (b || list_any (is_key f) keys) ≡ true) [ true ↦ refl | false ↦ rest ]

pub has_key : (f : FunctionName) (keys : List (ℕ × ℕ)) (b : Bool) → b ≡ list_any (is_key f) keys → IsTrue b ↔ IsAmong f (map function_of keys)
has_key f keys true h = (λ _. found f keys (sym h), λ _. refl)
has_key f keys false h = (λ wrong. let bad : false ≡ true = wrong in cc, λ among. let bad : false ≡ true = h ∙ there f keys among in cc)

pub inserted : (f : FunctionName) (keys keys' : List (ℕ × ℕ)) (b : Bool) → b ≡ not (list_any (is_key f) keys)
    → keys' ≡ cond (list_any (is_key f) keys) keys (keys ++ (f.name.index, f.arity) ∷ [])
    → Inserts f (map function_of keys) (map function_of keys') b
inserted f keys keys' b added is =
    elim (list_any (is_key f) keys) as (λ t. list_any (is_key f) keys ≡ t → b ≡ not t → keys' ≡ cond t keys (keys ++ (f.name.index, f.arity) ∷ []) → Inserts f (map function_of keys) (map function_of keys') b) [
      | true ↦ λ any old same. subst (Inserts f (map function_of keys) (map function_of keys')) (sym old) (found f keys any, ap (map function_of) same)
      | false ↦ λ none new grown. subst (Inserts f (map function_of keys) (map function_of keys')) (sym new)
          (λ among. let bad : false ≡ true = sym none ∙ there f keys among in cc, ap (map function_of) grown ∙ map-append function_of keys ((f.name.index, f.arity) ∷ []))
    ] refl added is

-- ---- distinct lists

pub among_end : {A : Type 0} (x : A) (xs : List A) → IsAmong x (xs ++ x ∷ [])
among_end x [] = inl refl
among_end x (y ∷ xs) = inr (among_end x xs)

pub among_front : {A : Type 0} (x : A) (xs ys : List A) → IsAmong x xs → IsAmong x (xs ++ ys)
among_front x [] ys h = absurd h
among_front x (y ∷ xs) ys (inl same) = inl same
among_front x (y ∷ xs) ys (inr more) = inr (among_front x xs ys more)

among_parts : {A : Type 0} (x : A) (xs ys : List A) → IsAmong x (xs ++ ys) → IsAmong x xs ⊎ IsAmong x ys
among_parts x [] ys h = inr h
among_parts x (y ∷ xs) ys (inl same) = inl (inl same)
among_parts x (y ∷ xs) ys (inr more) = elim (among_parts x xs ys more) [ inl a ↦ inl (inr a) | inr b ↦ inr b ]

-- one more at the end
pub distinct_more : {A : Type 0} (x : A) (xs : List A) → IsDistinct xs → (IsAmong x xs → ⊥) → IsDistinct (xs ++ x ∷ [])
distinct_more x [] distinct new = (λ h. h, tt)
distinct_more x (y ∷ xs) distinct new = (
  λ among. elim (among_parts y xs (x ∷ []) among) [
    | inl a ↦ distinct.0 a
    | inr b ↦ elim b [ inl same ↦ new (inl (sym same)) | inr none ↦ none ]
  ],
  distinct_more x xs distinct.1 (λ a. new (inr a)),
)

among_middle : {A : Type 0} (x : A) (xs ys : List A) → IsAmong x (xs ++ x ∷ ys)
among_middle x [] ys = inl refl
among_middle x (z ∷ xs) ys = inr (among_middle x xs ys)

-- one that stands before is no more distinct, whatever follows
pub not_distinct : {A : Type 0} (x : A) (xs ys : List A) → IsAmong x xs → IsDistinct (xs ++ x ∷ ys) → ⊥
not_distinct x [] ys h distinct = h
not_distinct x (y ∷ xs) ys (inl same) distinct = distinct.0 (subst (λ z. IsAmong z (xs ++ x ∷ ys)) (sym same) (among_middle x xs ys))
not_distinct x (y ∷ xs) ys (inr more) distinct = not_distinct x xs ys more distinct.1

whole : {A : Type 0} (xs : List A) (i : ℕ) (x : A) → i < length xs → x ≡ get_or xs i x → take i xs ++ x ∷ drop (suc i) xs ≡ xs
whole xs i x small read =
    let back : drop i xs ≡ x ∷ drop (suc i) xs = drop-cons xs i x small ∙ ap (λ z. z ∷ drop (suc i) xs) (sym read) in
    ap (λ l. take i xs ++ l) (sym back) ∙ take-append-drop i xs

front : {A : Type 0} (xs : List A) (i : ℕ) (x : A) → i < length xs → x ≡ get_or xs i x → take (i + 1) xs ≡ take i xs ++ x ∷ []
front xs i x small read = rw add-one (take-suc xs i x small ∙ ap (λ z. take i xs ++ z ∷ []) (sym read))

-- one more of the list, where it is new
pub distinct_step : {A : Type 0} (xs seen seen' : List A) (i : ℕ) (x : A) → i < length xs → x ≡ get_or xs i x
    → (seen ≡ take i xs) × IsDistinct (take i xs) → (IsAmong x seen → ⊥) → seen' ≡ seen ++ x ∷ []
    → (seen' ≡ take (i + 1) xs) × IsDistinct (take (i + 1) xs)
distinct_step {A} xs seen seen' i x small read before new grown =
    let more = front xs i x small read in (
      grown ∙ ap (λ l. l ++ x ∷ []) before.0 ∙ sym more,
      subst IsDistinct (sym more) (distinct_more x (take i xs) before.1 (λ among. new (subst (IsAmong x) (sym before.0) among))),
    )

-- one that was there
pub distinct_stop : {A : Type 0} (xs seen : List A) (i : ℕ) (x : A) → i < length xs → x ≡ get_or xs i x
    → seen ≡ take i xs → IsAmong x seen → IsDistinct xs → ⊥
distinct_stop {A} xs seen i x small read before among distinct =
    not_distinct x (take i xs) (drop (suc i) xs) (subst (IsAmong x) before among) (subst IsDistinct (sym (whole xs i x small read)) distinct)

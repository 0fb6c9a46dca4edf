-- What is held in lists of names and variables.
use Rattle.std.proofs.Common.{◌≡◌, ◌<◌, ℕ, zero, suc, Bool, true, false, ◌==◌, if◌then◌else◌, cond, List, [], ◌∷◌, ◌++◌, length, get_or, take, drop, map, Option, Some, None, refl, sym, ap, ◌∙◌, subst, nat_eq, arith}
use Rattle.std.proofs.lemmas.Bool.Decides.{nat_tests}
use Rattle.std.proofs.lemmas.List.{map-append}
use Rattle.std.specs.Map.{lookup}
use Rattle.indexmap.specs.IndexMap.{IndexMap, insert_entry}
use Rattle.indexmap.proofs.CallerLemmas.{insert_entry-new}
use Rattle.ef_base.specs.declared.name.Name.{Name}
use Rattle.ef_core.specs.declared.literal.CoreVar.{CoreVar}
use Rattle.ef_core.specs.declared.env.Bind.{Bind}
use Rattle.ef_core.specs.Env.{NamesDiffer, bind, bind_of, held}

same_test : (a b : ℕ) → (a == b) ≡ nat_eq b a
same_test a b = grind (arith, nat_tests)

-- a name is looked up by its number
pub held_looked_up : (es : List (ℕ × CoreVar)) (n : Name) → held (map bind_of es) n ≡ lookup (nat_eq n.index) es
held_looked_up [] n = refl
held_looked_up (e ∷ es) n =
    ap (λ b. cond b (Some e.1) (held (map bind_of es) n)) (same_test e.0 n.index) ∙ ap (λ o. cond (nat_eq n.index e.0) (Some e.1) o) (held_looked_up es n)

-- a name that is new goes last
pub held_pushed : {S : Type 0} (m : IndexMap ℕ CoreVar S) (n : Name) (v : CoreVar) → held (map bind_of m.entries) n ≡ None →
    map bind_of (insert_entry nat_eq m.entries n.index v) ≡ map bind_of m.entries ++ bind n v ∷ []
held_pushed m n v none =
    ap (map bind_of) (insert_entry-new nat_eq m n.index v (sym (held_looked_up m.entries n) ∙ none)) ∙ map-append bind_of m.entries ((n.index, v) ∷ [])

-- ---- one list behind another

pub held_front : (xs ys : List Bind) (n : Name) (v : CoreVar) → held xs n ≡ Some v → held (xs ++ ys) n ≡ Some v
held_front [] ys n v e = absurd cc
held_front (x ∷ xs) ys n v e = by (x.name.index == n.index) (λ h. held_front xs ys n v h) e
  where
    by : (t : Bool) → (held xs n ≡ Some v → held (xs ++ ys) n ≡ Some v) → (if t then Some x.var else held xs n) ≡ Some v → (if t then Some x.var else held (xs ++ ys) n) ≡ Some v
    by true k h = h
    by false k h = k h

pub held_back : (xs ys : List Bind) (n : Name) → held xs n ≡ None → held (xs ++ ys) n ≡ held ys n
held_back [] ys n e = refl
held_back (x ∷ xs) ys n e = by (x.name.index == n.index) (λ h. held_back xs ys n h) e
  where
    by : (t : Bool) → (held xs n ≡ None → held (xs ++ ys) n ≡ held ys n) → (if t then Some x.var else held xs n) ≡ None → (if t then Some x.var else held (xs ++ ys) n) ≡ held ys n
    by true k h = absurd cc
    by false k h = k h

-- ---- names that differ

not_first : (x b : Bind) (xs : List Bind) → held (x ∷ xs) b.name ≡ None → (held (b ∷ []) x.name ≡ None) × (held xs b.name ≡ None)
not_first x b xs e = by (x.name.index == b.name.index) refl e
  where
    by : (t : Bool) → (x.name.index == b.name.index) ≡ t → (if t then Some x.var else held xs b.name) ≡ None → (held (b ∷ []) x.name ≡ None) × (held xs b.name ≡ None)
    by true is h = absurd cc
    by false is h = let other : (b.name.index == x.name.index) ≡ false = grind (arith, nat_tests) in (ap (λ t. if t then Some b.var else None) other, h)

pub differ_more : (xs : List Bind) (b : Bind) → NamesDiffer xs → held xs b.name ≡ None → NamesDiffer (xs ++ b ∷ [])
differ_more [] b differ new = (refl, tt)
differ_more (x ∷ xs) b differ new =
    let parts = not_first x b xs new in (held_back xs (b ∷ []) x.name differ.0 ∙ parts.0, differ_more xs b differ.1 parts.1)

-- what stands further on has another name
not_there : (x d : Bind) (xs : List Bind) (i : ℕ) → held xs x.name ≡ None → i < length xs → (x.name.index == (get_or xs i d).name.index) ≡ false
not_there x d [] i none small = absurd (omega arith)
not_there x d (y ∷ xs) zero none small = by (x.name.index == y.name.index) refl (not_first y x xs none).0
  where
    by : (t : Bool) → (x.name.index == y.name.index) ≡ t → (if x.name.index == y.name.index then Some x.var else None) ≡ None → (x.name.index == y.name.index) ≡ false
    by true is h = let there : Some x.var ≡ None = sym (ap (λ t. if t then Some x.var else None) is) ∙ h in absurd cc
    by false is h = is
not_there x d (y ∷ xs) (suc i) none small = not_there x d xs i (not_first y x xs none).1 (omega arith)

-- where names differ, none of those before has the same
pub held_before : (bs : List Bind) (i : ℕ) (d : Bind) → NamesDiffer bs → i < length bs → held (take i bs) (get_or bs i d).name ≡ None
held_before [] i d differ small = absurd (omega arith)
held_before (x ∷ bs) zero d differ small = refl
held_before (x ∷ bs) (suc i) d differ small =
    ap (λ t. if t then Some x.var else held (take i bs) (get_or bs i d).name) (not_there x d bs i differ.0 (omega arith)) ∙ held_before bs i d differ.1 (omega arith)

pub held_before_at : (taken bs xs : List Bind) (i : ℕ) (d : Bind) → NamesDiffer xs → bs ≡ xs → taken ≡ take i xs → i < length bs → held taken (get_or bs i d).name ≡ None
held_before_at taken bs xs i d differ same is small =
    subst (λ l. held taken (get_or l i d).name ≡ None) (sym same)
    (subst (λ l. held l (get_or xs i d).name ≡ None) (sym is) (held_before xs i d differ (subst (λ l. i < length l) same small)))

-- ---- a front part, and what is behind it

take_zero : {A : Type 0} (xs : List A) → take 0 xs ≡ []
take_zero [] = refl
take_zero (x ∷ xs) = refl

none_taken : (n : ℕ) (bs : List Bind) (x : Name) → held bs x ≡ None → held (take n bs) x ≡ None
none_taken zero bs x none = ap (λ l. held l x) (take_zero bs)
none_taken (suc n) [] x none = refl
none_taken (suc n) (b ∷ bs) x none = by (b.name.index == x.index) none (λ h. none_taken n bs x h)
  where
    by : (t : Bool) → (if t then Some b.var else held bs x) ≡ None → (held bs x ≡ None → held (take n bs) x ≡ None) → (if t then Some b.var else held (take n bs) x) ≡ None
    by true h rest = absurd cc
    by false h rest = rest h

pub differ_taken : (n : ℕ) (bs : List Bind) → NamesDiffer bs → NamesDiffer (take n bs)
differ_taken zero bs differ = subst NamesDiffer (sym (take_zero bs)) tt
differ_taken (suc n) [] differ = tt
differ_taken (suc n) (b ∷ bs) differ = (none_taken n bs b.name differ.0, differ_taken n bs differ.1)

pub differ_dropped : (n : ℕ) (bs : List Bind) → NamesDiffer bs → NamesDiffer (drop n bs)
differ_dropped zero [] differ = tt
differ_dropped zero (b ∷ bs) differ = differ
differ_dropped (suc n) [] differ = tt
differ_dropped (suc n) (b ∷ bs) differ = differ_dropped n bs differ.1

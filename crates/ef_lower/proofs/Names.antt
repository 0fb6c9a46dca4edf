-- Names of an environment.
use Rattle.std.proofs.Common.{◌≡◌, ◌==◌, ◌||◌, ◌⊎◌, ℕ, inl, inr, Bool, true, false, if◌then◌else◌, List, [], ◌∷◌, ◌++◌, drop, take, length, cond, Some, None, refl, sym, ap, ◌∙◌, subst, arith}
use Rattle.std.proofs.lemmas.Bool.Decides.{nat_tests}
use Rattle.ef_base.specs.declared.name.Name.{Name}
use Rattle.ef_core.specs.declared.env.Bind.{Bind}
use Rattle.ef_core.specs.declared.literal.CoreVar.{CoreVar}
use Rattle.ef_core.specs.Conditions.{NoneTwice}
use Rattle.ef_core.specs.Env.{NamesDiffer, held}
use Rattle.ef_core.specs.Everywhere.{Each}
use Rattle.ef_core.specs.Scope.{IsAmong}
use Rattle.ef_core.proofs.Held.{held_back}
use Rattle.ef_meaning.specs.Cases.{AreHeld, names_of}
use Rattle.ef_meaning.specs.Named.{name_set}
use Rattle.ef_meaning.proofs.Bodies.{same_name}
use Rattle.ef_lower.specs.Ready.{bound_names}

-- the first one has the name, or the others decide
first_or_rest : (b : Bind) (bs : List Bind) (n : Name) → (held (b ∷ bs) n ≡ Some b.var) ⊎ (((b.name.index == n.index) ≡ false) × (held (b ∷ bs) n ≡ held bs n))
first_or_rest b bs n = by (b.name.index == n.index) refl
  where
    by : (same : Bool) → (b.name.index == n.index) ≡ same → (held (b ∷ bs) n ≡ Some b.var) ⊎ (((b.name.index == n.index) ≡ false) × (held (b ∷ bs) n ≡ held bs n))
    by true is = inl (ap (λ t. cond t (Some b.var) (held bs n)) is)
    by false is = inr (is, ap (λ t. cond t (Some b.var) (held bs n)) is)

pub is_held : (env : List Bind) (n : Name) → bound_names env n.index ≡ true → held env n ≡ None → ⊥
is_held [] n here none = absurd (cc)
is_held (b ∷ bs) n here none =
    elim (first_or_rest b bs n) [
      | inl first ↦ absurd (cc)
      | inr rest ↦ is_held bs n (sym (ap (λ t. t || bound_names bs n.index) rest.0) ∙ here) (sym rest.1 ∙ none)
    ]

some_same : (a b : CoreVar) → Some a ≡ Some b → a ≡ b
some_same a b same = cc

-- what holds of each variable of an environment holds of one that is found there
pub held_has : (P : CoreVar → Type 0) (env : List Bind) (n : Name) (v : CoreVar) → Each (λ b. P b.var) env → held env n ≡ Some v → P v
held_has P [] n v all is = absurd (cc)
held_has P (b ∷ bs) n v all is =
    elim (first_or_rest b bs n) [
      | inl first ↦ subst P (some_same b.var v (sym first ∙ is)) all.0
      | inr rest ↦ held_has P bs n v all.1 (sym rest.1 ∙ is)
    ]

-- what holds of each variable of an environment holds of those that are found there
pub held_each : (P : CoreVar → Type 0) (env bs : List Bind) → Each (λ b. P b.var) env → AreHeld env bs → Each (λ b. P b.var) bs
held_each P env [] all are = tt
held_each P env (b ∷ bs) all are = (held_has P env b.name b.var all are.0, held_each P env bs all are.1)

-- ---- the names behind others

pub differ_back : (xs ys : List Bind) → NamesDiffer (xs ++ ys) → NamesDiffer ys
differ_back [] ys differ = differ
differ_back (x ∷ xs) ys differ = differ_back xs ys differ.1

not_among : (n : Name) (bs : List Bind) → held bs n ≡ None → IsAmong (names_of bs) n → ⊥
not_among n [] none is = is
not_among n (b ∷ bs) none (inl same) =
    let here : (b.name.index == n.index) ≡ true = ap (λ (m : Name). b.name.index == m.index) same ∙ same_number b.name.index in
    let there : Some b.var ≡ None = sym (ap (λ t. if t then Some b.var else held bs n) here) ∙ none in absurd cc
  where
    same_number : (i : ℕ) → (i == i) ≡ true
    same_number i = grind (arith, nat_tests)
not_among n (b ∷ bs) none (inr is) = not_among n bs (by (b.name.index == n.index) none) is
  where
    by : (t : Bool) → (if t then Some b.var else held bs n) ≡ None → held bs n ≡ None
    by true h = absurd cc
    by false h = h

pub names_twice : (bs : List Bind) → NamesDiffer bs → NoneTwice (names_of bs)
names_twice [] differ = tt
names_twice (b ∷ bs) differ = (not_among b.name bs differ.0, names_twice bs differ.1)

-- a name that stands further on is not held before
not_first : (n : Name) (x : Bind) (ys : List Bind) → held ys x.name ≡ None → IsAmong (names_of ys) n → (x.name.index == n.index) ≡ false
not_first n x ys none is = by (x.name.index == n.index) refl
  where
    by : (t : Bool) → (x.name.index == n.index) ≡ t → (x.name.index == n.index) ≡ false
    by true same = absurd (not_among n ys (ap (held ys) (sym (same_name x.name n same)) ∙ none) is)
    by false other = other

among_back : (xs ys : List Bind) (n : Name) → IsAmong (names_of ys) n → IsAmong (names_of (xs ++ ys)) n
among_back [] ys n is = is
among_back (x ∷ xs) ys n is = inr (among_back xs ys n is)

pub new_behind : (xs ys : List Bind) (n : Name) → NamesDiffer (xs ++ ys) → IsAmong (names_of ys) n → held xs n ≡ None
new_behind [] ys n differ is = refl
new_behind (x ∷ xs) ys n differ is =
    ap (λ t. if t then Some x.var else held xs n) (not_first n x (xs ++ ys) differ.0 (among_back xs ys n is)) ∙ new_behind xs ys n differ.1 is

pub each_new : (xs : List Bind) (names : List Name) → ((n : Name) → IsAmong names n → held xs n ≡ None) → Each (λ n. held xs n ≡ None) names
each_new xs [] new = tt
each_new xs (n ∷ names) new = (new n (inl refl), each_new xs names (λ m is. new m (inr is)))

pub binds_behind : (xs ys : List Bind) → NamesDiffer (xs ++ ys) → Each (λ b. held xs b.name ≡ None) ys
binds_behind xs ys differ = each ys (λ n is. new_behind xs ys n differ is)
  where
    each : (bs : List Bind) → ((n : Name) → IsAmong (names_of bs) n → held xs n ≡ None) → Each (λ b. held xs b.name ≡ None) bs
    each [] new = tt
    each (b ∷ bs) new = (new b.name (inl refl), each bs (λ n is. new n (inr is)))

-- a name that is held further on is not held before
held_once : (xs ys : List Bind) (n : Name) (v : CoreVar) → NamesDiffer (xs ++ ys) → held ys n ≡ Some v → held xs n ≡ None
held_once [] ys n v differ is = refl
held_once (x ∷ xs) ys n v differ is = by (x.name.index == n.index) refl (held_once xs ys n v differ.1 is)
  where
    by : (t : Bool) → (x.name.index == n.index) ≡ t → held xs n ≡ None → (if t then Some x.var else held xs n) ≡ None
    by true same rest =
        let here : held (xs ++ ys) n ≡ None = ap (held (xs ++ ys)) (sym (same_name x.name n same)) ∙ differ.0 in
        let there : Some v ≡ None = sym is ∙ sym (held_back xs ys n rest) ∙ here in absurd cc
    by false other rest = rest

pub held_further : (xs ys bs : List Bind) → NamesDiffer (xs ++ ys) → AreHeld ys bs → AreHeld (xs ++ ys) bs
held_further xs ys [] differ are = tt
held_further xs ys (b ∷ bs) differ are = (held_back xs ys b.name (held_once xs ys b.name b.var differ are.0) ∙ are.0, held_further xs ys bs differ are.1)

-- ---- parts of an environment

pub drop_front : (xs ys : List Bind) → drop (length xs) (xs ++ ys) ≡ ys
drop_front [] ys = refl
drop_front (x ∷ xs) ys = drop_front xs ys

pub named_set : (bs : List Bind) (y : ℕ) → name_set (names_of bs) y ≡ bound_names bs y
named_set [] y = refl
named_set (b ∷ bs) y = ap (λ z. (b.name.index == y) || z) (named_set bs y)

pub take_front : (xs ys : List Bind) → take (length xs) (xs ++ ys) ≡ xs
take_front [] [] = refl
take_front [] (y ∷ ys) = refl
take_front (x ∷ xs) ys = ap (λ l. x ∷ l) (take_front xs ys)

-- The names of a match under the variables of a step.
use Rattle.std.proofs.Common.{◌≡◌, ◌+◌, ◌≤◌, ◌==◌, ℕ, Bool, true, false, if◌then◌else◌, List, [], ◌∷◌, ◌++◌, length, map, Option, Some, None, refl, sym, ap, ◌∙◌, subst, append_assoc, arith}
use Rattle.std.proofs.lemmas.Bool.Decides.{nat_tests}
use Rattle.ef_base.specs.declared.name.Name.{Name}
use Rattle.ef_base.specs.Texts.{Texts}
use Rattle.ef_core.specs.declared.env.Bind.{Bind}
use Rattle.ef_core.specs.declared.literal.CoreVar.{CoreVar}
use Rattle.ef_core.specs.declared.literal.CoreVar.TheVariants.{Numbered}
use Rattle.ef_core.specs.Env.{bind, held}
use Rattle.ef_core.specs.Tree as to
use Rattle.ef_core.specs.Tree.{CoreTree}
use Rattle.ef_meaning.specs.Value.{Value}
use Rattle.ef_meaning.specs.Match.{Bindings, value_of}
use Rattle.ef_meaning.specs.Core as core
use Rattle.ef_meaning.specs.Core.{Vars, value_at}
use Rattle.ef_meaning.specs.Lowers.{SameAt, Describes, AreBelow, Agree, AreValues, params_from, env_from}
use Rattle.ef_meaning.specs.Cases.{AreHeld, names_of}
use Rattle.ef_meaning.proofs.Variables.{here, held_below, are_below_more, agree_refl, agree_trans, agree_more}
use Rattle.ef_meaning.proofs.Bodies.{same_name}

same_number : (n : ℕ) → (n == n) ≡ true
same_number n = grind (arith, nat_tests)

-- ---- names of one list behind another

pub held_front : (xs ys : List Bind) (n : Name) (v : CoreVar) → held xs n ≡ Some v → held (xs ++ ys) n ≡ Some v
held_front [] ys n v e = absurd cc
held_front (x ∷ xs) ys n v e = by (x.name.index == n.index) (λ h. held_front xs ys n v h) e
  where
    by : (t : Bool) → (held xs n ≡ Some v → held (xs ++ ys) n ≡ Some v) → (if t then Some x.var else held xs n) ≡ Some v → (if t then Some x.var else held (xs ++ ys) n) ≡ Some v
    by true k h = h
    by false k h = k h

pub held_behind : (xs ys : List Bind) (n : Name) → held xs n ≡ None → held (xs ++ ys) n ≡ held ys n
held_behind [] ys n e = refl
held_behind (x ∷ xs) ys n e = by (x.name.index == n.index) (λ h. held_behind xs ys n h) e
  where
    by : (t : Bool) → (held xs n ≡ None → held (xs ++ ys) n ≡ held ys n) → (if t then Some x.var else held xs n) ≡ None → (if t then Some x.var else held (xs ++ ys) n) ≡ held ys n
    by true k h = absurd cc
    by false k h = k h

-- ---- variables from a number on

below_append : (n : ℕ) (xs ys : List Bind) → AreBelow n xs → AreBelow n ys → AreBelow n (xs ++ ys)
below_append n [] ys p q = q
below_append n (x ∷ xs) ys p q = (p.0, below_append n xs ys p.1 q)

from_below : (n : ℕ) (xs : List Name) → AreBelow (n + length xs) (env_from n xs)
from_below n [] = tt
from_below n (x ∷ xs) = (omega arith, are_below_more (n + 1 + length xs) (n + length (x ∷ xs)) (env_from (n + 1) xs) (omega arith) (from_below (n + 1) xs))

pub renamed_below : (m n : ℕ) (env : List Bind) (xs : List Name) → m ≤ n → AreBelow m env → AreBelow (n + length xs) (env ++ env_from n xs)
renamed_below m n env xs le p = below_append (n + length xs) env (env_from n xs) (are_below_more m (n + length xs) env (omega arith) p) (from_below n xs)

-- variables from a number on take as many values, and change no earlier one
pub bound_from : (n : ℕ) (xs : List Name) (vs : List Value) (d : Vars) → length vs ≡ length xs → (e : Vars) × (core.bind (params_from n xs) vs d ≡ Some e) × Agree n d e
bound_from n [] [] d len = (d, refl, agree_refl n d)
bound_from n [] (v ∷ vs) d len = absurd cc
bound_from n (x ∷ xs) [] d len = absurd cc
bound_from n (x ∷ xs) (v ∷ vs) d len =
    let rest = bound_from (n + 1) xs vs ((Numbered n, v) ∷ d) (omega arith) in
    (rest.0, rest.1, agree_trans n (n + 1) d ((Numbered n, v) ∷ d) rest.0 (omega arith) (agree_more n n d d v (omega arith) (agree_refl n d)) rest.2)

pub bound_agree : (n : ℕ) (xs : List Name) (vs : List Value) (d e : Vars) → core.bind (params_from n xs) vs d ≡ Some e → Agree n d e
bound_agree n [] [] d e p = let same : d ≡ e = cc in subst (Agree n d) same (agree_refl n d)
bound_agree n [] (v ∷ vs) d e p = absurd cc
bound_agree n (x ∷ xs) [] d e p = absurd cc
bound_agree n (x ∷ xs) (v ∷ vs) d e p =
    agree_trans n (n + 1) d ((Numbered n, v) ∷ d) e (omega arith) (agree_more n n d d v (omega arith) (agree_refl n d)) (bound_agree (n + 1) xs vs ((Numbered n, v) ∷ d) e p)

-- ---- names and the values that they had

pub values_count : (all : Texts) (bs : List Bind) (vs : List Value) (d : Vars) → AreValues all (map (λ (b : Bind). to.var b.var) bs) vs d → length vs ≡ length (names_of bs)
values_count all [] [] d p = refl
values_count all [] (v ∷ vs) d p = absurd p
values_count all (b ∷ bs) [] d p = absurd p
values_count all (b ∷ bs) (v ∷ vs) d p = let rest = values_count all bs vs d p.1 in omega arith

-- each variable that a name of these is bound to has a value
pub held_values : (all : Texts) (env bs : List Bind) (b : Bindings) (d : Vars) → AreHeld env bs → Describes env b d → (vs : List Value) × AreValues all (map (λ (b : Bind). to.var b.var) bs) vs d
held_values all env [] b d are desc = ([], tt)
held_values all env (x ∷ bs) b d are desc =
    let rest = held_values all env bs b d are.1 desc in
    let first = by (value_of x.name b) (subst (λ o. SameAt o (value_of x.name b) d) are.0 (desc.each x.name)) in
    (first.0 ∷ rest.0, (first.1, rest.1))
  where
    by : (o : Option Value) → SameAt (Some x.var) o d → (v : Value) × (value_at x.var d ≡ Some v)
    by None p = absurd p
    by (Some v) p = (v, p)

-- a name has the same value under its new variable
same_renamed : (all : Texts) (bs : List Bind) (n : ℕ) (vs : List Value) (m d e : Vars) (z : Name) (o : Option Value) → AreValues all (map (λ (b : Bind). to.var b.var) bs) vs m → core.bind (params_from n (names_of bs)) vs d ≡ Some e →
    SameAt (held bs z) o m → SameAt (held (env_from n (names_of bs)) z) o e
same_renamed all [] n vs m d e z None are set p = tt
same_renamed all [] n vs m d e z (Some u) are set p = absurd p
same_renamed all (b ∷ bs) n [] m d e z o are set p = absurd are
same_renamed all (b ∷ bs) n (v ∷ vs) m d e z o are set p = by (b.name.index == z.index) o p (λ q. same_renamed all bs (n + 1) vs m ((Numbered n, v) ∷ d) e z o are.1 set q)
  where
    first : value_at (Numbered n) e ≡ Some v
    first = (bound_agree (n + 1) (names_of bs) vs ((Numbered n, v) ∷ d) e set).each (Numbered n) (omega arith) ∙ here n v d

    by : (t : Bool) (o : Option Value) → SameAt (if t then Some b.var else held bs z) o m → (SameAt (held bs z) o m → SameAt (held (env_from (n + 1) (names_of bs)) z) o e) → SameAt (if t then Some (Numbered n) else held (env_from (n + 1) (names_of bs)) z) o e
    by true None q k = absurd q
    by true (Some u) q k = first ∙ sym are.0 ∙ q
    by false o q k = k q

-- the names of an environment keep their variables, the others get those from a number on
pub describes_renamed : (all : Texts) (env bs : List Bind) (n0 n : ℕ) (vs : List Value) (b : Bindings) (d m e : Vars) → n0 ≤ n → AreBelow n0 env → Agree n0 d m → AreValues all (map (λ (b : Bind). to.var b.var) bs) vs m →
    core.bind (params_from n (names_of bs)) vs d ≡ Some e → Describes (env ++ bs) b m → Describes (env ++ env_from n (names_of bs)) b e
describes_renamed all env bs n0 n vs b d m e le below agree are set desc = record { each = λ z. by z (held env z) refl }
  where
    old : (z : Name) (y : CoreVar) (o : Option Value) → held env z ≡ Some y → SameAt (Some y) o m → SameAt (Some y) o e
    old z y None is p = absurd p
    old z y (Some u) is p = (agree_trans n0 n d d e le (agree_refl n0 d) (bound_agree n (names_of bs) vs d e set)).each y (held_below n0 env z y below is) ∙ sym (agree.each y (held_below n0 env z y below is)) ∙ p

    by : (z : Name) (o : Option CoreVar) → held env z ≡ o → SameAt (held (env ++ env_from n (names_of bs)) z) (value_of z b) e
    by z (Some y) is =
        subst (λ x. SameAt x (value_of z b) e) (sym (held_front env (env_from n (names_of bs)) z y is))
        (old z y (value_of z b) is (subst (λ x. SameAt x (value_of z b) m) (held_front env bs z y is) (desc.each z)))
    by z None is =
        subst (λ x. SameAt x (value_of z b) e) (sym (held_behind env (env_from n (names_of bs)) z is))
        (same_renamed all bs n vs m d e z (value_of z b) are set (subst (λ x. SameAt x (value_of z b) m) (held_behind env bs z is) (desc.each z)))

-- ---- names that are new

-- a name that was not held, and what was there
pub held_push : (env bs : List Bind) (x : Name) (y : CoreVar) → held (env ++ bs) x ≡ None → AreHeld (env ++ bs) bs → AreHeld (env ++ (bs ++ bind x y ∷ [])) (bs ++ bind x y ∷ [])
held_push env bs x y free are = subst (λ l. AreHeld l (bs ++ bind x y ∷ [])) (append_assoc env bs (bind x y ∷ [])) (by bs are)
  where
    by : (cs : List Bind) → AreHeld (env ++ bs) cs → AreHeld ((env ++ bs) ++ bind x y ∷ []) (cs ++ bind x y ∷ [])
    by [] p = (held_behind (env ++ bs) (bind x y ∷ []) x free ∙ ap (λ t. if t then Some y else None) (same_number x.index), tt)
    by (c ∷ cs) p = (held_front (env ++ bs) (bind x y ∷ []) c.name c.var p.0, by cs p.1)

-- where no name stands twice
abbrev pub AreNew : List Bind → Type 0
AreNew [] = Unit {0}
AreNew (b ∷ bs) = (held bs b.name ≡ None) × AreNew bs

new_here : (b : Bind) (bs : List Bind) → held (b ∷ bs) b.name ≡ Some b.var
new_here b bs = ap (λ t. if t then Some b.var else held bs b.name) (same_number b.name.index)

-- what is held further on is another name
new_there : (x : Bind) (bs : List Bind) (c : Name) (y : CoreVar) → held bs x.name ≡ None → held bs c ≡ Some y → held (x ∷ bs) c ≡ Some y
new_there x bs c y free is = by (x.name.index == c.index) refl
  where
    by : (t : Bool) → (x.name.index == c.index) ≡ t → (if t then Some x.var else held bs c) ≡ Some y
    by true e = let none : held bs c ≡ None = subst (λ n. held bs n ≡ None) (same_name x.name c e) free in absurd cc
    by false e = is

all_there : (x : Bind) (bs cs : List Bind) → held bs x.name ≡ None → AreHeld bs cs → AreHeld (x ∷ bs) cs
all_there x bs [] free p = tt
all_there x bs (c ∷ cs) free p = (new_there x bs c.name c.var free p.0, all_there x bs cs free p.1)

all_held : (bs : List Bind) → AreNew bs → AreHeld bs bs
all_held [] p = tt
all_held (b ∷ bs) p = (new_here b bs, all_there b bs bs p.0 (all_held bs p.1))

pub new_held : (env bs : List Bind) → AreNew (env ++ bs) → AreHeld (env ++ bs) bs
new_held [] bs p = all_held bs p
new_held (x ∷ env) bs p = all_there x (env ++ bs) bs p.0 (new_held env bs p.1)

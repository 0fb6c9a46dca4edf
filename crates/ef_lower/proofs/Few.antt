-- A pattern binds no more names than it is heavy, and so do the clauses of a `case`.
use Rattle.std.proofs.Common.{◌≡◌, ◌≤◌, ◌+◌, ◌==◌, ◌||◌, ◌&&◌, ℕ, Bool, true, false, if◌then◌else◌, List, [], ◌∷◌, ◌++◌, length, Some, None, refl, sym, ap, ◌∙◌, arith}
use Rattle.std.proofs.lemmas.Bool.Decides.{nat_tests}
use Rattle.ef_base.specs.declared.name.Name.{Name}
use Rattle.ef_core.specs.declared.env.Bind.{Bind}
use Rattle.ef_core.specs.Env.{NamesDiffer, held}
use Rattle.ef_core.specs.Everywhere.{Each}
use Rattle.ef_forms.specs.Sure.{sure, shape_sure, all_sure, clauses_sure}
use Rattle.ef_forms.specs.Tree.{Tree, Shape, Trees, Guards, Clauses, tree, var, list, list_to, tuple, matching, call, remote, case_of, end, more, no_guard, or_guard, no_clauses, clause}
use Rattle.ef_forms.specs.Ways.{NameSet, no_names, one_name, union, common, names, shape_names, all_names, guards_names, clauses_names}
use Rattle.ef_forms.specs.Weight.{weight, shape_weight, all_weight, guards_weight, clauses_weight}
use Rattle.ef_meaning.proofs.Bodies.{same_name}
use Rattle.ef_lower.specs.Ready.{bound_names}
use Rattle.ef_lower.proofs.Faults.{from_right}
use Rattle.ef_lower.proofs.Names.{is_held}
use Rattle.ef_lower.proofs.Sizes.{bound_both}

-- how many have a name of the set
abbrev one_if : Bool → ℕ
one_if b = if b then 1 else 0

abbrev count_in : NameSet → List Bind → ℕ
count_in s [] = 0
count_in s (b ∷ bs) = one_if (s b.name.index) + count_in s bs

all_in : (s : NameSet) (bs : List Bind) → Each (λ b. s b.name.index ≡ true) bs → count_in s bs ≡ length bs
all_in s [] all = refl
all_in s (b ∷ bs) all = let rest = all_in s bs all.1 in let one : one_if (s b.name.index) ≡ 1 = ap one_if all.0 in omega arith

either_most : (a b : Bool) → one_if (a || b) ≤ one_if a + one_if b
either_most true b = omega arith
either_most false b = omega arith

union_most : (s t : NameSet) (bs : List Bind) → count_in (union s t) bs ≤ count_in s bs + count_in t bs
union_most s t [] = omega arith
union_most s t (b ∷ bs) = let one = either_most (s b.name.index) (t b.name.index) in let rest = union_most s t bs in omega arith

first_most : (a b : Bool) → one_if (a && b) ≤ one_if a
first_most true true = omega arith
first_most true false = omega arith
first_most false b = omega arith

common_most : (s t : NameSet) (bs : List Bind) → count_in (common s t) bs ≤ count_in s bs
common_most s t [] = omega arith
common_most s t (b ∷ bs) = let one = first_most (s b.name.index) (t b.name.index) in let rest = common_most s t bs in omega arith

none_in : (bs : List Bind) → count_in no_names bs ≡ 0
none_in [] = refl
none_in (b ∷ bs) = let rest = none_in bs in omega arith

same_test : (a b : ℕ) → (a == b) ≡ (b == a)
same_test a b = grind (arith, nat_tests)

-- a name that is not held
not_in : (n : Name) (bs : List Bind) → held bs n ≡ None → count_in (one_name n) bs ≡ 0
not_in n [] none = refl
not_in n (b ∷ bs) none = by (b.name.index == n.index) refl none (not_in n bs)
  where
    by : (t : Bool) → (b.name.index == n.index) ≡ t → (if t then Some b.var else held bs n) ≡ None → (held bs n ≡ None → count_in (one_name n) bs ≡ 0) → one_if (n.index == b.name.index) + count_in (one_name n) bs ≡ 0
    by true is h rest = absurd (cc)
    by false is h rest = let first = ap one_if (same_test n.index b.name.index ∙ is) in let others = rest h in omega arith

one_most : (n : Name) (bs : List Bind) → NamesDiffer bs → count_in (one_name n) bs ≤ 1
one_most n [] differ = omega arith
one_most n (b ∷ bs) differ = by (n.index == b.name.index) refl (one_most n bs differ.1)
  where
    by : (t : Bool) → (n.index == b.name.index) ≡ t → count_in (one_name n) bs ≤ 1 → one_if t + count_in (one_name n) bs ≤ 1
    by true is rest = let none = not_in n bs (ap (held bs) (same_name n b.name is) ∙ differ.0) in omega arith
    by false is rest = omega arith

module _ (bs : List Bind) (differ : NamesDiffer bs) where
  mutual
    pub few_in : (e : Tree) → count_in (names e) bs ≤ weight e
    few_in (tree p e) = few_in_shape e

    few_in_shape : (e : Shape) → count_in (shape_names e) bs ≤ shape_weight e
    few_in_shape (var n) = one_most n bs differ
    few_in_shape (list es) = let all = few_in_all es in omega arith
    few_in_shape (list_to es e) = let most = union_most (all_names es) (names e) bs in let all = few_in_all es in let one = few_in e in omega arith
    few_in_shape (tuple es) = let all = few_in_all es in omega arith
    few_in_shape (matching p e) = let most = union_most (names p) (names e) bs in let left = few_in p in let right = few_in e in omega arith
    few_in_shape (call f es) = let most = union_most (names f) (all_names es) bs in let one = few_in f in let all = few_in_all es in omega arith
    few_in_shape (remote m f es) =
        let most = union_most (names m) (union (names f) (all_names es)) bs in let most_of = union_most (names f) (all_names es) bs in
        let left = few_in m in let right = few_in f in let all = few_in_all es in omega arith
    few_in_shape (case_of e cs) = let most = union_most (names e) (clauses_names cs) bs in let one = few_in e in let all = few_in_clauses cs in omega arith
    few_in_shape _ = let none = none_in bs in omega arith

    pub few_in_all : (es : Trees) → count_in (all_names es) bs ≤ all_weight es
    few_in_all end = let none = none_in bs in omega arith
    few_in_all (more e es) = let most = union_most (names e) (all_names es) bs in let one = few_in e in let all = few_in_all es in omega arith

    few_in_guards : (gs : Guards) → count_in (guards_names gs) bs ≤ guards_weight gs
    few_in_guards no_guard = let none = none_in bs in omega arith
    few_in_guards (or_guard es gs) = let most = union_most (all_names es) (guards_names gs) bs in let all = few_in_all es in let rest = few_in_guards gs in omega arith

    few_in_clauses : (cs : Clauses) → count_in (clauses_names cs) bs ≤ clauses_weight cs
    few_in_clauses no_clauses = let none = none_in bs in omega arith
    few_in_clauses (clause p ps g body cs) =
        let most = union_most (all_names ps) (union (guards_names g) (union (all_names body) (clauses_names cs))) bs in
        let most_in = union_most (guards_names g) (union (all_names body) (clauses_names cs)) bs in let most_of = union_most (all_names body) (clauses_names cs) bs in
        let left = few_in_all ps in let tests = few_in_guards g in let right = few_in_all body in let rest = few_in_clauses cs in omega arith

  -- those that are bound for sure
  mutual
    few_sure : (e : Tree) → count_in (sure e) bs ≤ weight e
    few_sure (tree p e) = few_sure_shape e

    few_sure_shape : (e : Shape) → count_in (shape_sure e) bs ≤ shape_weight e
    few_sure_shape (var n) = one_most n bs differ
    few_sure_shape (list es) = let all = few_sure_all es in omega arith
    few_sure_shape (list_to es e) = let most = union_most (all_sure es) (sure e) bs in let all = few_sure_all es in let one = few_sure e in omega arith
    few_sure_shape (tuple es) = let all = few_sure_all es in omega arith
    few_sure_shape (matching p e) = let most = union_most (sure e) (names p) bs in let left = few_in p in let right = few_sure e in omega arith
    few_sure_shape (call f es) = let most = union_most (sure f) (all_sure es) bs in let one = few_sure f in let all = few_sure_all es in omega arith
    few_sure_shape (remote m f es) =
        let most = union_most (sure m) (union (sure f) (all_sure es)) bs in let most_of = union_most (sure f) (all_sure es) bs in
        let left = few_sure m in let right = few_sure f in let all = few_sure_all es in omega arith
    few_sure_shape (case_of e cs) = let most = union_most (sure e) (clauses_sure cs) bs in let one = few_sure e in let all = few_sure_clauses cs in omega arith
    few_sure_shape _ = let none = none_in bs in omega arith

    few_sure_all : (es : Trees) → count_in (all_sure es) bs ≤ all_weight es
    few_sure_all end = let none = none_in bs in omega arith
    few_sure_all (more e es) = let most = union_most (sure e) (all_sure es) bs in let one = few_sure e in let all = few_sure_all es in omega arith

    few_sure_clauses : (cs : Clauses) → count_in (clauses_sure cs) bs ≤ clauses_weight cs
    few_sure_clauses no_clauses = let none = none_in bs in omega arith
    few_sure_clauses (clause p ps g body no_clauses) =
        let most = union_most (all_names ps) (all_sure body) bs in let left = few_in_all ps in let right = few_sure_all body in omega arith
    few_sure_clauses (clause p ps g body (clause q qs h d cs)) =
        let fewer = common_most (union (all_names ps) (all_sure body)) (clauses_sure (clause q qs h d cs)) bs in
        let most = union_most (all_names ps) (all_sure body) bs in let left = few_in_all ps in let right = few_sure_all body in omega arith

-- ---- the names of a pattern

each_up : {A : Type 0} (P Q : A → Type 0) (xs : List A) → ((x : A) → P x → Q x) → Each P xs → Each Q xs
each_up P Q [] up all = tt
each_up P Q (x ∷ xs) up all = (up x all.0, each_up P Q xs up all.1)

own_names : (bs : List Bind) → Each (λ b. bound_names bs b.name.index ≡ true) bs
own_names [] = tt
own_names (b ∷ bs) =
    let here : (b.name.index == b.name.index) ≡ true = grind (arith, nat_tests) in (
      ap (λ t. t || bound_names bs b.name.index) here,
      each_up (λ x. bound_names bs x.name.index ≡ true) (λ x. bound_names (b ∷ bs) x.name.index ≡ true) bs (λ x is. from_right (b.name.index == x.name.index) (bound_names bs x.name.index) is) (own_names bs),
    )

not_bound : (env : List Bind) (n : Name) → held env n ≡ None → bound_names env n.index ≡ false
not_bound env n none = by (bound_names env n.index) refl
  where
    by : (t : Bool) → bound_names env n.index ≡ t → bound_names env n.index ≡ false
    by true is = absurd (is_held env n is none)
    by false is = is

-- names that are new and bound by a pattern are its own
their_names : (env binds : List Bind) (s : NameSet) → ((y : ℕ) → bound_names (env ++ binds) y ≡ (bound_names env y || s y)) → (bs : List Bind) → Each (λ b. bound_names binds b.name.index ≡ true) bs → Each (λ b. held env b.name ≡ None) bs → Each (λ b. s b.name.index ≡ true) bs
their_names env binds s all [] own new = tt
their_names env binds s all (b ∷ bs) own new =
    let y = b.name.index in
    let not = not_bound env b.name new.0 in (
      sym (ap (λ t. t || s y) not) ∙ sym (all y) ∙ bound_both env binds y ∙ from_right (bound_names env y) (bound_names binds y) own.0,
      their_names env binds s all bs own.1 new.1,
    )

-- names that are new, differ and are of a set that is not greater than a number
few_of : (s : NameSet) (most : ℕ) (env binds : List Bind) → ((bs : List Bind) → NamesDiffer bs → count_in s bs ≤ most) → NamesDiffer binds → Each (λ b. held env b.name ≡ None) binds → ((y : ℕ) → bound_names (env ++ binds) y ≡ (bound_names env y || s y)) → length binds ≤ most
few_of s most env binds few differ new all =
    let every = all_in s binds (their_names env binds s all binds (own_names binds) new) in
    let all_of = few binds differ in omega arith

pub few_binds : (env binds : List Bind) (ps : Trees) → NamesDiffer binds → Each (λ b. held env b.name ≡ None) binds → ((y : ℕ) → bound_names (env ++ binds) y ≡ (bound_names env y || all_names ps y)) → length binds ≤ all_weight ps
few_binds env binds ps differ new all = few_of (all_names ps) (all_weight ps) env binds (λ bs d. few_in_all bs d ps) differ new all

pub few_shared : (env binds : List Bind) (cs : Clauses) → NamesDiffer binds → Each (λ b. held env b.name ≡ None) binds → ((y : ℕ) → bound_names (env ++ binds) y ≡ (bound_names env y || clauses_sure cs y)) → length binds ≤ clauses_weight cs
few_shared env binds cs differ new all = few_of (clauses_sure cs) (clauses_weight cs) env binds (λ bs d. few_sure_clauses bs d cs) differ new all

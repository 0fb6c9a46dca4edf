-- Tests and names that were found, and the variables that were drawn for them.
use Rattle.std.proofs.Common.{◌≡◌, ℕ, zero, suc, ◌+◌, ◌≤◌, ◌<◌, ◌==◌, ◌⊎◌, inl, inr, Bool, true, false, if◌then◌else◌, List, [], ◌∷◌, ◌++◌, Option, Some, None, refl, sym, ap, ◌∙◌, subst, arith}
use Rattle.std.specs.Prelude.{◌||◌}
use Rattle.std.proofs.Math.Bool.{or_assoc}
use Rattle.std.proofs.lemmas.Bool.Decides.{nat_tests}
use Rattle.ef_base.specs.declared.name.Name.{Name}
use Rattle.ef_core.specs.declared.env.Bind.{Bind}
use Rattle.ef_core.specs.declared.literal.CoreVar.{CoreVar}
use Rattle.ef_core.specs.declared.literal.CoreVar.TheVariants.{Numbered, Named}
use Rattle.ef_core.specs.declared.lowered.Test.{Test}
use Rattle.ef_core.specs.Conditions.{NoneTwice}
use Rattle.ef_core.specs.Env.{bind, held}
use Rattle.ef_core.specs.Everywhere.{Each}
use Rattle.ef_core.specs.Fresh.{IsDrawnIn, variables_from}
use Rattle.ef_core.specs.Scope.{IsAmong}
use Rattle.ef_core.proofs.Held.{differ_more, held_back, held_front}
use Rattle.ef_core.proofs.HoldsLaws.{each_append, each_same}
use Rattle.ef_meaning.specs.Named.{bound_names}
use Rattle.ef_lowpat.specs.Lowers.{AreFound, IsVariableOf}

-- ---- variables in a row

drawn_more : (first m n : ℕ) (v : CoreVar) → m ≤ n → IsDrawnIn first m v → IsDrawnIn first n v
drawn_more first m n (Numbered i) le p = let below : i < m = p.1 in (p.0, omega arith)
drawn_more first m n (Named x) le p = p

drawn_next : (first n : ℕ) → first ≤ n → IsDrawnIn first (n + 1) (Numbered n)
drawn_next first n le = (le, omega arith)

pub row_append : (n i j : ℕ) → variables_from n i ++ variables_from (n + i) j ≡ variables_from n (i + j)
row_append n zero j = (λ k. variables_from (let same : n + 0 ≡ n = omega arith in same k) j) ∙ ap (variables_from n) (let same : j ≡ 0 + j = omega arith in same)
row_append n (suc i) j =
    (λ k. Numbered n ∷ (variables_from (n + 1) i ++ variables_from (let same : n + suc i ≡ n + 1 + i = omega arith in same k) j))
    ∙ ap (λ l. Numbered n ∷ l) (row_append (n + 1) i j)
    ∙ ap (variables_from n) (let same : suc (i + j) ≡ suc i + j = omega arith in same)

among_row : (n k i : ℕ) → IsAmong (variables_from n k) (Numbered i) → (n ≤ i) × (i < n + k)
among_row n zero i h = absurd h
among_row n (suc k) i (inl same) = let is : i ≡ n = number_of same in (omega arith, omega arith)
  where
    number_of : Numbered i ≡ Numbered n → i ≡ n
    number_of e = cc
among_row n (suc k) i (inr rest) = let r = among_row (n + 1) k i rest in (omega (arith, r.0), omega (arith, r.1))

pub row_differs : (n k : ℕ) → NoneTwice (variables_from n k)
row_differs n zero = tt
row_differs n (suc k) = (λ h. let r = among_row (n + 1) k n h in absurd (omega (arith, r.0)), row_differs (n + 1) k)

pub row_drawn : (n k : ℕ) → Each (IsDrawnIn n (n + k)) (variables_from n k)
row_drawn n zero = tt
row_drawn n (suc k) = ((omega arith, omega arith), each_same (IsDrawnIn (n + 1) (n + 1 + k)) (IsDrawnIn n (n + suc k)) one (variables_from (n + 1) k) (row_drawn (n + 1) k))
  where
    one : (v : CoreVar) → IsDrawnIn (n + 1) (n + 1 + k) v → IsDrawnIn n (n + suc k) v
    one (Numbered i) p = let above : n + 1 ≤ i = p.0 in let below : i < n + 1 + k = p.1 in (omega arith, omega arith)
    one (Named x) p = p

in_row : (n k i : ℕ) → n ≤ i → i < n + k → IsAmong (variables_from n k) (Numbered i)
in_row n zero i from below = absurd (omega arith)
in_row n (suc k) i from below = by (λ later. in_row (n + 1) k i later (omega arith)) (n == i) refl
  where
    by : (n + 1 ≤ i → IsAmong (variables_from (n + 1) k) (Numbered i)) → (t : Bool) → (n == i) ≡ t → IsAmong (variables_from n (suc k)) (Numbered i)
    by rest true p = inl (ap Numbered (let same : i ≡ n = grind (arith, nat_tests) in same))
    by rest false p = inr (rest (let other : n + 1 ≤ i = grind (arith, nat_tests) in other))

-- a variable that was drawn here is one of the row
pub drawn_in_row : (n k m : ℕ) (v : CoreVar) → m ≡ n + k → IsDrawnIn n m v → IsAmong (variables_from n k) v
drawn_in_row n k m (Numbered i) is p = let below : i < m = p.1 in in_row n k i p.0 (omega arith)
drawn_in_row n k m (Named x) is p = absurd p

-- ---- names that are held by one of two

pub none_left : (xs ys : List Bind) (x : Name) → held (xs ++ ys) x ≡ None → held xs x ≡ None
none_left xs ys x e = by (held xs x) refl
  where
    by : (o : Option CoreVar) → held xs x ≡ o → held xs x ≡ None
    by None p = p
    by (Some v) p = absurd (let some = held_front xs ys x v p in cc)

pub none_right : (xs ys : List Bind) (x : Name) → held (xs ++ ys) x ≡ None → held ys x ≡ None
none_right xs ys x e = sym (held_back xs ys x (none_left xs ys x e)) ∙ e

variable_of : (env : List Bind) (x : Name) (v : CoreVar) → held env x ≡ Some v → IsVariableOf env v
variable_of [] x v e = absurd cc
variable_of (b ∷ bs) x v e = by (b.name.index == x.index) (λ h. variable_of bs x v h) e
  where
    by : (t : Bool) → (held bs x ≡ Some v → IsVariableOf bs v) → (if t then Some b.var else held bs x) ≡ Some v → IsVariableOf (b ∷ bs) v
    by true k h = (b, inl refl, (let same : b.var ≡ v = cc in same))
    by false k h = let r = k h in (r.0, inr r.1, r.2)

pub each_among : {A : Type 0} (P : A → Type 0) (xs : List A) (x : A) → Each P xs → IsAmong xs x → P x
each_among P [] x all h = absurd h
each_among P (y ∷ ys) x all (inl same) = subst P (sym same) all.0
each_among P (y ∷ ys) x all (inr rest) = each_among P ys x all.1 rest

pub held_variable : (xs ys : List Bind) (x : Name) (v : CoreVar) → held (xs ++ ys) x ≡ Some v → IsVariableOf xs v ⊎ IsVariableOf ys v
held_variable xs ys x v e = by (held xs x) refl
  where
    by : (o : Option CoreVar) → held xs x ≡ o → IsVariableOf xs v ⊎ IsVariableOf ys v
    by None p = inr (variable_of ys x v (sym (held_back xs ys x p) ∙ e))
    by (Some w) p = inl (let one = held_front xs ys x w p in let same : w ≡ v = cc in variable_of xs x v (p ∙ ap Some same))

-- ---- what was found

module _ (bound : List Bind) (first : ℕ) where
  found_later : (m n : ℕ) (tests : List Test) (binds : List Bind) → m ≤ n → AreFound bound first m tests binds → AreFound bound first n tests binds
  found_later m n tests binds le f = record {
    differ = f.differ;
    new = f.new;
    drawn = each_same (λ b. IsDrawnIn first m b.var) (λ b. IsDrawnIn first n b.var) (λ b p. drawn_more first m n b.var le p) binds f.drawn;
    lefts = each_same (λ t. IsDrawnIn first m t.left) (λ t. IsDrawnIn first n t.left) (λ t p. drawn_more first m n t.left le p) tests f.lefts;
    rights = each_same (λ t. IsDrawnIn first m t.right ⊎ IsVariableOf bound t.right) (λ t. IsDrawnIn first n t.right ⊎ IsVariableOf bound t.right) one tests f.rights;
  }
    where
      one : (t : Test) → IsDrawnIn first m t.right ⊎ IsVariableOf bound t.right → IsDrawnIn first n t.right ⊎ IsVariableOf bound t.right
      one t (inl p) = inl (drawn_more first m n t.right le p)
      one t (inr p) = inr p

  pub found_none : (n : ℕ) (tests : List Test) (binds : List Bind) → first ≤ n → AreFound bound first n tests binds → AreFound bound first (n + 1) tests binds
  found_none n tests binds le f = found_later n (n + 1) tests binds (omega arith) f

  -- one more test
  pub found_test : (n : ℕ) (tests : List Test) (binds : List Bind) (x : Name) (z : CoreVar) → held (bound ++ binds) x ≡ Some z → first ≤ n → AreFound bound first n tests binds → AreFound bound first (n + 1) (tests ++ record { left = Numbered n; right = z } ∷ []) binds
  found_test n tests binds x z is le f =
      let later = found_none n tests binds le f in record {
        differ = later.differ;
        new = later.new;
        drawn = later.drawn;
        lefts = each_append (λ t. IsDrawnIn first (n + 1) t.left) tests (record { left = Numbered n; right = z } ∷ []) later.lefts (drawn_next first n le, tt);
        rights = each_append (λ t. IsDrawnIn first (n + 1) t.right ⊎ IsVariableOf bound t.right) tests (record { left = Numbered n; right = z } ∷ []) later.rights (right (held_variable bound binds x z is), tt);
      }
    where
      right : IsVariableOf bound z ⊎ IsVariableOf binds z → IsDrawnIn first (n + 1) z ⊎ IsVariableOf bound z
      right (inl p) = inr p
      right (inr p) = inl (drawn_more first n (n + 1) z (omega arith) (subst (IsDrawnIn first n) p.2 (each_among (λ b. IsDrawnIn first n b.var) binds p.0 f.drawn p.1)))

  -- one more name
  pub found_name : (n : ℕ) (tests : List Test) (binds : List Bind) (x : Name) → held (bound ++ binds) x ≡ None → first ≤ n → AreFound bound first n tests binds → AreFound bound first (n + 1) tests (binds ++ bind x (Numbered n) ∷ [])
  found_name n tests binds x free le f =
      let later = found_none n tests binds le f in record {
        differ = differ_more binds (bind x (Numbered n)) f.differ (none_right bound binds x free);
        new = each_append (λ b. held bound b.name ≡ None) binds (bind x (Numbered n) ∷ []) f.new (none_left bound binds x free, tt);
        drawn = each_append (λ b. IsDrawnIn first (n + 1) b.var) binds (bind x (Numbered n) ∷ []) later.drawn (drawn_next first n le, tt);
        lefts = later.lefts;
        rights = later.rights;
      }

-- ---- sets of names

pub or_false : (b : Bool) → b ≡ (b || false)
or_false true = refl
or_false false = refl

pub names_append : (xs ys : List Bind) (y : ℕ) → bound_names (xs ++ ys) y ≡ (bound_names xs y || bound_names ys y)
names_append [] ys y = refl
names_append (b ∷ bs) ys y = ap (λ t. (b.name.index == y) || t) (names_append bs ys y) ∙ sym (or_assoc (b.name.index == y) (bound_names bs y) (bound_names ys y))

-- a name that is held is in the set already
pub names_held : (env : List Bind) (x : Name) (v : CoreVar) (y : ℕ) → held env x ≡ Some v → bound_names env y ≡ (bound_names env y || (x.index == y))
names_held env x v y is = by (x.index == y) refl
  where
    inside : (env : List Bind) → held env x ≡ Some v → bound_names env x.index ≡ true
    inside [] e = absurd cc
    inside (b ∷ bs) e = at (b.name.index == x.index) (λ h. inside bs h) e
      where
        at : (t : Bool) → (held bs x ≡ Some v → bound_names bs x.index ≡ true) → (if t then Some b.var else held bs x) ≡ Some v → (t || bound_names bs x.index) ≡ true
        at true k h = refl
        at false k h = k h

    by : (t : Bool) → (x.index == y) ≡ t → bound_names env y ≡ (bound_names env y || t)
    by false p = or_false (bound_names env y)
    by true p =
        let same : x.index ≡ y = grind (arith, nat_tests) in
        let here : bound_names env y ≡ true = subst (λ n. bound_names env n ≡ true) same (inside env is) in
        here ∙ sym (ap (λ t. t || true) here)

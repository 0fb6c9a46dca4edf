-- Patterns without parts.
use Rattle.std.proofs.Common.{◌≡◌, ℕ, ℤ, ◌+◌, ◌==◌, ◌⊎◌, inl, inr, Bool, true, false, if◌then◌else◌, List, [], ◌∷◌, ◌++◌, Option, Some, None, refl, sym, ap, ◌∙◌, subst, arith, append-nil}
use Rattle.std.proofs.lemmas.Bool.Decides.{nat_tests}
use Rattle.ef_base.specs.declared.name.Name.{Name}
use Rattle.ef_base.specs.declared.fault.Place.{Place}
use Rattle.ef_base.specs.Texts.{Texts, text}
use Rattle.ef_core.specs.declared.env.Bind.{Bind}
use Rattle.ef_core.specs.declared.literal.CoreVar.{CoreVar}
use Rattle.ef_core.specs.declared.literal.CoreVar.TheVariants.{Numbered}
use Rattle.ef_core.specs.declared.lowered.Test.{Test}
use Rattle.ef_core.specs.Env.{bind, held}
use Rattle.ef_core.proofs.Held.{held_back, held_front}
use Rattle.ef_core.specs.Tree as to
use Rattle.ef_forms.specs.Tree as from
use Rattle.ef_meaning.specs.Value.{Value, Integer, Atom}
use Rattle.ef_meaning.specs.Same.{same_value}
use Rattle.ef_meaning.specs.Match.{Bindings, value_of}
use Rattle.ef_meaning.specs.Match as source
use Rattle.ef_meaning.specs.Core.{Vars, value_at}
use Rattle.ef_meaning.specs.Core as core
use Rattle.ef_meaning.specs.Lowers.{Agree, AreBelow, Describes, IsBelow, SameAt}
use Rattle.ef_meaning.specs.Patterns.{are_same, both_hold, verdict}
use Rattle.ef_meaning.proofs.SameLaws.{value_itself, value_same}
use Rattle.ef_meaning.proofs.Variables.{agree_more, agree_refl, are_below_more, below_more, describes_more, held_below, here, there}
use Rattle.ef_lowpat.specs.Matching.{HaveHeld, KeepsMatch, KeepsPattern, SameBy, whole}
use Rattle.ef_lowpat.proofs.Verdicts.{below_append, held_agree}

-- ---- a value is compared, on both sides

compared_is : (t : Bool) (c d : Vars) → (if t then Some c else None) ≡ Some d → c ≡ d
compared_is true c d e = cc
compared_is false c d e = absurd cc

pub literal_keeps : (n0 : ℕ) (env : List Bind) (value : Texts → Value) → AreBelow n0 env
    → KeepsMatch whole Value n0 env [] n0 [] (λ all v b. source.compared (value all) v b) (λ all v c. core.compared (value all) v c)
literal_keeps n0 env value below = record {
  drawn = omega arith;
  below = subst (AreBelow n0) (sym (append-nil env)) below;
  tests_below = tt;
  agree = λ all v c d e. subst (Agree n0 c) (compared_is (same_value (value all) v) c d e) (agree_refl n0 c);
  decided = λ all v c d h e. record {
    held = subst (λ x. HaveHeld x d) (sym (append-nil env)) (subst (HaveHeld env) (compared_is (same_value (value all) v) c d e) h);
    values = tt;
    verdict = (true, refl);
  };
  keeps = λ all v b c desc. subst (λ x. SameBy whole x [] (source.compared (value all) v b) (core.compared (value all) v c)) (sym (append-nil env)) (by (same_value (value all) v) b c desc);
}
  where
    by : (t : Bool) (b : Bindings) (c : Vars) → Describes env b c → SameBy whole env [] (if t then Some b else None) (if t then Some c else None)
    by true b c desc = (refl, desc, tt)
    by false b c desc = tt

pub int_keeps : (n0 : ℕ) (env : List Bind) (p : Place) (i : ℤ) → AreBelow n0 env → KeepsPattern (from.tree p (from.int i)) n0 env (to.pat_lit (to.int i)) [] n0 []
int_keeps n0 env p i below = literal_keeps n0 env (λ all. Integer i) below

pub atom_keeps : (n0 : ℕ) (env : List Bind) (p : Place) (n : Name) → AreBelow n0 env → KeepsPattern (from.tree p (from.atom n)) n0 env (to.pat_lit (to.atom n)) [] n0 []
atom_keeps n0 env p n below = literal_keeps n0 env (λ all. Atom (text all n)) below

-- ---- one more variable

drawn_agree : (n0 : ℕ) (v : Value) (c d : Vars) (o : Option Vars) → o ≡ Some ((Numbered n0, v) ∷ c) → o ≡ Some d → Agree n0 c d
drawn_agree n0 v c d o is e =
    let same : (Numbered n0, v) ∷ c ≡ d = cc in subst (Agree n0 c) same (agree_more n0 n0 c c v (omega arith) (agree_refl n0 c))

pub any_keeps : (n0 : ℕ) (env : List Bind) (p : Place) → AreBelow n0 env → KeepsPattern (from.tree p from.any) n0 env (to.pat_var (Numbered n0)) [] (n0 + 1) []
any_keeps n0 env p below = record {
  drawn = omega arith;
  below = subst (AreBelow (n0 + 1)) (sym (append-nil env)) (are_below_more n0 (n0 + 1) env (omega arith) below);
  tests_below = tt;
  agree = λ all v c d e. drawn_agree n0 v c d _ refl e;
  decided = λ all v c d h e. record {
    held = subst (λ x. HaveHeld x d) (sym (append-nil env)) (held_agree n0 env c d below (drawn_agree n0 v c d _ refl e) h);
    values = tt;
    verdict = (true, refl);
  };
  keeps = λ all v b c desc. subst (λ x. SameBy whole x [] (Some b) (Some ((Numbered n0, v) ∷ c))) (sym (append-nil env)) (refl, describes_more n0 env b c v below desc, tt);
}

not_bound : (env : List Bind) (b : Bindings) (c : Vars) (x : Name) → Describes env b c → held env x ≡ None → value_of x b ≡ None
not_bound env b c x desc free = by (held env x) (value_of x b) (desc.each x) free
  where
    by : (o : Option CoreVar) (p : Option Value) → SameAt o p c → o ≡ None → p ≡ None
    by None None q e = refl
    by None (Some u) q e = absurd q
    by (Some y) p q e = absurd cc

is_bound : (env : List Bind) (b : Bindings) (c : Vars) (x : Name) (y : CoreVar) → Describes env b c → held env x ≡ Some y → (u : Value) × (value_of x b ≡ Some u) × (value_at y c ≡ Some u)
is_bound env b c x y desc is = by (held env x) (value_of x b) (desc.each x) is
  where
    by : (o : Option CoreVar) (p : Option Value) → SameAt o p c → o ≡ Some y → (u : Value) × (p ≡ Some u) × (value_at y c ≡ Some u)
    by None p q e = absurd cc
    by (Some z) None q e = absurd q
    by (Some z) (Some u) q e = let same : z ≡ y = cc in (u, refl, subst (λ w. value_at w c ≡ Some u) same q)

-- ---- a name that is bound: its variable is compared

same_back : (u v : Value) → same_value u v ≡ same_value v u
same_back u v = by (same_value u v) (same_value v u) refl refl
  where
    by : (s t : Bool) → same_value u v ≡ s → same_value v u ≡ t → s ≡ t
    by true true p q = refl
    by false false p q = refl
    by true false p q = absurd (let one : u ≡ v = value_same u v p in let two = sym (value_itself u) ∙ ap (λ z. same_value z u) one in let bad : true ≡ false = two ∙ q in cc)
    by false true p q = absurd (let one : v ≡ u = value_same v u q in let two = sym (value_itself v) ∙ ap (λ z. same_value z v) one in let bad : true ≡ false = two ∙ p in cc)

abbrev pub test_of : ℕ → CoreVar → List Test
test_of n0 z = record { left = Numbered n0; right = z } ∷ []

test_says : (n0 : ℕ) (z : CoreVar) (u v : Value) (c : Vars) → IsBelow n0 z → value_at z c ≡ Some u → verdict (test_of n0 z) ((Numbered n0, v) ∷ c) ≡ both_hold (Some (same_value u v)) (Some true)
test_says n0 z u v c below at =
    (λ i. both_hold (are_same (here n0 v c i) ((there n0 z v c below ∙ at) i)) (Some true)) ∙ ap (λ t. both_hold (Some t) (Some true)) (same_back v u)

pub bound_keeps : (n0 : ℕ) (env : List Bind) (p : Place) (x : Name) (z : CoreVar) → AreBelow n0 env → held env x ≡ Some z
    → KeepsPattern (from.tree p (from.var x)) n0 env (to.pat_var (Numbered n0)) (test_of n0 z) (n0 + 1) []
bound_keeps n0 env p x z below is = record {
  drawn = omega arith;
  below = subst (AreBelow (n0 + 1)) (sym (append-nil env)) (are_below_more n0 (n0 + 1) env (omega arith) below);
  tests_below = (omega arith, below_more n0 (n0 + 1) z (omega arith) z_below, tt);
  agree = λ all v c d e. drawn_agree n0 v c d _ refl e;
  decided = λ all v c d h e.
      let same : (Numbered n0, v) ∷ c ≡ d = cc in
      let u = h.each x z is in record {
        held = subst (λ y. HaveHeld y d) (sym (append-nil env)) (held_agree n0 env c d below (drawn_agree n0 v c d _ refl e) h);
        values = tt;
        verdict = (_, ap (verdict (test_of n0 z)) (sym same) ∙ test_says n0 z u.0 v c z_below u.1);
      };
  keeps = λ all v b c desc.
      let u = is_bound env b c x z desc is in
      subst (λ y. SameBy whole y (test_of n0 z) (source.match_name x (value_of x b) v b) (Some ((Numbered n0, v) ∷ c))) (sym (append-nil env))
      (subst (λ o. SameBy whole env (test_of n0 z) (source.match_name x o v b) (Some ((Numbered n0, v) ∷ c))) (sym u.1)
      (by (same_value u.0 v) v b c (test_says n0 z u.0 v c z_below u.2) (describes_more n0 env b c v below desc)));
}
  where
    z_below : IsBelow n0 z
    z_below = held_below n0 env x z below is

    by : (t : Bool) (v : Value) (b : Bindings) (c : Vars) → verdict (test_of n0 z) ((Numbered n0, v) ∷ c) ≡ both_hold (Some t) (Some true) → Describes env b ((Numbered n0, v) ∷ c)
        → SameBy whole env (test_of n0 z) (if t then Some b else None) (Some ((Numbered n0, v) ∷ c))
    by true v b c says desc = (says, desc, tt)
    by false v b c says desc = says

-- ---- a name that is new: it is bound

same_name : (x y : Name) → (x.index == y.index) ≡ true → x ≡ y
same_name x y p = let i : x.index ≡ y.index = grind (arith, nat_tests) in ap (λ (n : ℕ). let name : Name = record { index = n } in name) i

-- the variable of a name, where one name was put behind
added : (env : List Bind) (x y : Name) (z : CoreVar) → held env x ≡ None
    → (((x.index == y.index) ≡ true) × (held (env ++ bind x z ∷ []) y ≡ Some z)) ⊎ (((x.index == y.index) ≡ false) × (held (env ++ bind x z ∷ []) y ≡ held env y))
added env x y z free = by (x.index == y.index) refl (held env y) refl
  where
    by : (t : Bool) → (x.index == y.index) ≡ t → (o : Option CoreVar) → held env y ≡ o
        → (((x.index == y.index) ≡ true) × (held (env ++ bind x z ∷ []) y ≡ Some z)) ⊎ (((x.index == y.index) ≡ false) × (held (env ++ bind x z ∷ []) y ≡ held env y))
    by true p (Some w) q = absurd (let none : held env y ≡ None = subst (λ n. held env n ≡ None) (same_name x y p) free in cc)
    by true p None q = inl (p, held_back env (bind x z ∷ []) y q ∙ ap (λ t. if t then Some z else None) p)
    by false p (Some w) q = inr (p, held_front env (bind x z ∷ []) y w q ∙ sym q)
    by false p None q = inr (p, held_back env (bind x z ∷ []) y q ∙ ap (λ t. if t then Some z else None) p ∙ sym q)

added_held : (n0 : ℕ) (env : List Bind) (x : Name) (v : Value) (c : Vars) → AreBelow n0 env → held env x ≡ None → HaveHeld env c → HaveHeld (env ++ bind x (Numbered n0) ∷ []) ((Numbered n0, v) ∷ c)
added_held n0 env x v c below free h = record { each = λ y w e. by y w e (added env x y (Numbered n0) free) }
  where
    by : (y : Name) (w : CoreVar) → held (env ++ bind x (Numbered n0) ∷ []) y ≡ Some w
        → (((x.index == y.index) ≡ true) × (held (env ++ bind x (Numbered n0) ∷ []) y ≡ Some (Numbered n0))) ⊎ (((x.index == y.index) ≡ false) × (held (env ++ bind x (Numbered n0) ∷ []) y ≡ held env y))
        → (u : Value) × (value_at w ((Numbered n0, v) ∷ c) ≡ Some u)
    by y w e (inl q) = let same : Numbered n0 ≡ w = cc in (v, subst (λ z. value_at z ((Numbered n0, v) ∷ c) ≡ Some v) same (here n0 v c))
    by y w e (inr q) =
        let old : held env y ≡ Some w = sym q.1 ∙ e in
        let u = h.each y w old in (u.0, there n0 w v c (held_below n0 env y w below old) ∙ u.1)

added_describes : (n0 : ℕ) (env : List Bind) (x : Name) (v : Value) (b : Bindings) (c : Vars) → AreBelow n0 env → held env x ≡ None → Describes env b c → Describes (env ++ bind x (Numbered n0) ∷ []) ((x, v) ∷ b) ((Numbered n0, v) ∷ c)
added_describes n0 env x v b c below free desc = record { each = λ y. by y (added env x y (Numbered n0) free) }
  where
    more : Describes env b ((Numbered n0, v) ∷ c)
    more = describes_more n0 env b c v below desc

    by : (y : Name) → (((x.index == y.index) ≡ true) × (held (env ++ bind x (Numbered n0) ∷ []) y ≡ Some (Numbered n0))) ⊎ (((x.index == y.index) ≡ false) × (held (env ++ bind x (Numbered n0) ∷ []) y ≡ held env y))
        → SameAt (held (env ++ bind x (Numbered n0) ∷ []) y) (value_of y ((x, v) ∷ b)) ((Numbered n0, v) ∷ c)
    by y (inl q) =
        subst (λ o. SameAt o (value_of y ((x, v) ∷ b)) ((Numbered n0, v) ∷ c)) (sym q.1)
        (subst (λ t. SameAt (Some (Numbered n0)) (if t then Some v else value_of y b) ((Numbered n0, v) ∷ c)) (sym q.0) (here n0 v c))
    by y (inr q) =
        subst (λ o. SameAt o (value_of y ((x, v) ∷ b)) ((Numbered n0, v) ∷ c)) (sym q.1)
        (subst (λ t. SameAt (held env y) (if t then Some v else value_of y b) ((Numbered n0, v) ∷ c)) (sym q.0) (more.each y))

pub name_keeps : (n0 : ℕ) (env : List Bind) (p : Place) (x : Name) → AreBelow n0 env → held env x ≡ None
    → KeepsPattern (from.tree p (from.var x)) n0 env (to.pat_var (Numbered n0)) [] (n0 + 1) (bind x (Numbered n0) ∷ [])
name_keeps n0 env p x below free = record {
  drawn = omega arith;
  below = below_append (n0 + 1) env (bind x (Numbered n0) ∷ []) (are_below_more n0 (n0 + 1) env (omega arith) below) (omega arith, tt);
  tests_below = tt;
  agree = λ all v c d e. drawn_agree n0 v c d _ refl e;
  decided = λ all v c d h e.
      let same : (Numbered n0, v) ∷ c ≡ d = cc in record {
        held = subst (HaveHeld (env ++ bind x (Numbered n0) ∷ [])) same (added_held n0 env x v c below free h);
        values = ((v, subst (λ g. value_at (Numbered n0) g ≡ Some v) same (here n0 v c)), tt);
        verdict = (true, refl);
      };
  keeps = λ all v b c desc.
      subst (λ o. SameBy whole (env ++ bind x (Numbered n0) ∷ []) [] (source.match_name x o v b) (Some ((Numbered n0, v) ∷ c))) (sym (not_bound env b c x desc free))
      (refl, added_describes n0 env x v b c below free desc, tt);
}

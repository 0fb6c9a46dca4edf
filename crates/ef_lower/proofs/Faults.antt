-- Where more names are bound there are no more faults.
use Rattle.std.proofs.Common.{◌≡◌, ℕ, Bool, true, false, ◌||◌, ◌⊎◌, inl, inr, List, [], ◌∷◌, ◌++◌, if◌then◌else◌, refl, sym, ◌∙◌}
use Rattle.std.specs.List.{flat_map}
use Rattle.ef_base.specs.declared.name.Name.{Name}
use Rattle.ef_base.specs.declared.fault.Place.{Place}
use Rattle.ef_base.specs.Texts.{Texts}
use Rattle.ef_forms.specs.Sure.{sure}
use Rattle.ef_forms.specs.Tree.{Tree, Trees, Guards, Clauses, tree, var, any, list, list_to, tuple, matching, call, remote, case_of, end, more, no_guard, or_guard, no_clauses, clause}
use Rattle.ef_forms.specs.Ways.{NameSet, Way, union, bind, all_names, ways, on_some, on_all, unbound, unsafe, use_faults, name_faults, pattern_faults, patterns_faults, pattern_guards_faults, pattern_clauses_faults, faults, all_faults, body_faults, guards_faults, clauses_faults}
use Rattle.ef_forms.proofs.Bools.{and_true, or_false}
use Rattle.ef_forms.proofs.Grows.{grows_ways, grows_body}
use Rattle.ef_forms.proofs.Growth.{given, Grows, grows_bind, after_given, after_some, after_all}
use Rattle.ef_forms.proofs.Within.{sure_follows, within_same}

pub either : (a b : Bool) → (a || b) ≡ true → (a ≡ true) ⊎ (b ≡ true)
either true b here = inl refl
either false b here = inr here

pub from_left : (a b : Bool) → a ≡ true → (a || b) ≡ true
from_left a b here = rw here refl

pub from_right : (a b : Bool) → b ≡ true → (a || b) ≡ true
from_right true b here = refl
from_right false b here = here

pub nothing_left : {A : Type 0} (xs ys : List A) → xs ++ ys ≡ [] → xs ≡ []
nothing_left [] ys none = refl
nothing_left (x ∷ xs) ys none = absurd (cc)

pub nothing_right : {A : Type 0} (xs ys : List A) → xs ++ ys ≡ [] → ys ≡ []
nothing_right [] ys none = none
nothing_right (x ∷ xs) ys none = absurd (cc)

-- ---- ways that are safer than others

-- what is bound on every way of b is so on every way of a, and what is bound on some way of a is so on every one, or on
-- some way of b
pub record Safer (a b : List NameSet) : Type 0 where
  pub here : given a ≡ true
  pub there : given b ≡ true
  pub all : (x : Name) → on_all x b ≡ true → on_all x a ≡ true
  pub some : (x : Name) → on_some x a ≡ true → (on_all x a ≡ true) ⊎ (on_some x b ≡ true)

pub safer_same : (s : NameSet) → Safer (s ∷ []) (s ∷ [])
safer_same s = record { here = refl; there = refl; all = λ x k. k; some = λ x k. inr k }

-- more names
pub safer_more : (s t : NameSet) → ((y : ℕ) → s y ≡ true → t y ≡ true) → Safer (t ∷ []) (s ∷ [])
safer_more s t within = record {
  here = refl;
  there = refl;
  all = λ x k. and_true (t x.index) ∙ within x.index (sym (and_true (s x.index)) ∙ k);
  some = λ x k. inl (and_true (t x.index) ∙ sym (or_false (t x.index)) ∙ k);
}

-- what follows stays safer
module _ (f : Way) (m M : NameSet) (grows : Grows f m M) (a b : List NameSet) (w : Safer a b) where
  some_after : (x : Name) → (on_some x a ≡ true) ⊎ (m x.index ≡ true) → (on_all x (flat_map f a) ≡ true) ⊎ (on_some x (flat_map f b) ≡ true)
  some_after x (inl before) =
      elim (w.some x before) [
        | inl every ↦ inl (after_all f m M grows a w.here x ∙ from_left (on_all x a) (M x.index) every)
        | inr there ↦ inr (after_some f m M grows b w.there x ∙ from_left (on_some x b) (m x.index) there)
      ]
  some_after x (inr mine) = inr (after_some f m M grows b w.there x ∙ from_right (on_some x b) (m x.index) mine)

  all_after : (x : Name) → (on_all x b ≡ true) ⊎ (M x.index ≡ true) → on_all x (flat_map f a) ≡ true
  all_after x (inl before) = after_all f m M grows a w.here x ∙ from_left (on_all x a) (M x.index) (w.all x before)
  all_after x (inr mine) = after_all f m M grows a w.here x ∙ from_right (on_all x a) (M x.index) mine

  pub safer_after : Safer (flat_map f a) (flat_map f b)
  safer_after = record {
    here = after_given f m M grows a w.here;
    there = after_given f m M grows b w.there;
    all = λ x k. all_after x (either (on_all x b) (M x.index) (sym (after_all f m M grows b w.there x) ∙ k));
    some = λ x k. some_after x (either (on_some x a) (m x.index) (sym (after_some f m M grows a w.here x) ∙ k));
  }

-- the names that are bound for sure stand for all ways that follow
sure_safer : (f : Way) (m M : NameSet) → Grows f m M → (s : NameSet) (sets : List NameSet) → Safer (s ∷ []) sets → Safer (union s M ∷ []) (flat_map f sets)
sure_safer f m M grows s sets w =
    let first = sure_follows f m M grows s (s ∷ []) (within_same (s ∷ []) refl) in
    let rest = safer_after f m M grows (s ∷ []) sets w in
    record {
      here = refl;
      there = rest.there;
      all = λ x k. first.all x (rest.all x k);
      some = λ x k. elim (rest.some x (first.some x k)) [ inl every ↦ inl (first.all x every) | inr there ↦ inr there ];
    }

module _ (s : NameSet) (sets : List NameSet) (w : Safer (s ∷ []) sets) where
  pub safer_ways : (e : Tree) → Safer (union s (sure e) ∷ []) (flat_map (ways e) sets)
  safer_ways e = sure_safer _ _ _ (grows_ways e) s sets w

  pub safer_bind : (t : NameSet) → Safer (union s t ∷ []) (flat_map (bind t) sets)
  safer_bind t = sure_safer _ _ _ (grows_bind t) s sets w

-- ---- no more faults

both_none : {A : Type 0} (a b c d : List A) → (a ≡ [] → c ≡ []) → (b ≡ [] → d ≡ []) → a ++ b ≡ [] → c ++ d ≡ []
both_none a b c d p q h = rw (p (nothing_left a b h), q (nothing_right a b h)) refl

bound_use : {A : Type 0} (x y : A) (every some : Bool) → (if every then [] else (if some then (x ∷ []) else (y ∷ []))) ≡ [] → every ≡ true
bound_use x y true some k = refl
bound_use x y false true k = absurd (cc)
bound_use x y false false k = absurd (cc)

safe_name : {A : Type 0} (x : A) (every some every' some' : Bool) → (every ≡ true → every' ≡ true) → (some' ≡ true → (every' ≡ true) ⊎ (some ≡ true)) →
    (if every then [] else (if some then (x ∷ []) else [])) ≡ [] → (if every' then [] else (if some' then (x ∷ []) else [])) ≡ []
safe_name x every some true some' h k none = refl
safe_name x every some false false h k none = refl
safe_name x every some false true h k none = elim (k refl) [ inl is ↦ absurd (cc) | inr is ↦ by every some is h none ]
  where
    by : (every some : Bool) → some ≡ true → (every ≡ true → false ≡ true) → (if every then [] else (if some then (x ∷ []) else [])) ≡ [] → x ∷ [] ≡ []
    by true some is h none = let wrong = h refl in absurd (cc)
    by false true is h none = none
    by false false is h none = absurd (cc)

module _ (all : Texts) where
  safer_uses : (p : Place) (n : Name) (a b : List NameSet) → Safer a b → use_faults all p n b ≡ [] → use_faults all p n a ≡ []
  safer_uses p n a b w h = rw (w.all n (bound_use (unsafe all p n) (unbound all p n) (on_all n b) (on_some n b) h)) refl

  safer_names : (p : Place) (n : Name) (a b : List NameSet) → Safer a b → name_faults all p n b ≡ [] → name_faults all p n a ≡ []
  safer_names p n a b w h = safe_name (unsafe all p n) (on_all n b) (on_some n b) (on_all n a) (on_some n a) (w.all n) (w.some n) h

  mutual
    safer_pattern : (e : Tree) (a b : List NameSet) → Safer a b → pattern_faults all e b ≡ [] → pattern_faults all e a ≡ []
    safer_pattern (tree p (var n)) a b w h = safer_names p n a b w h
    safer_pattern (tree p (list es)) a b w h = safer_patterns es a b w h
    safer_pattern (tree p (list_to es e)) a b w h = both_none _ _ _ _ (safer_patterns es a b w) (safer_pattern e a b w) h
    safer_pattern (tree p (tuple es)) a b w h = safer_patterns es a b w h
    safer_pattern (tree p (matching q e)) a b w h = both_none _ _ _ _ (safer_pattern q a b w) (safer_pattern e a b w) h
    safer_pattern (tree p (call f es)) a b w h = both_none _ _ _ _ (safer_pattern f a b w) (safer_patterns es a b w) h
    safer_pattern (tree p (remote m f es)) a b w h = both_none _ _ _ _ (safer_pattern m a b w) (both_none _ _ _ _ (safer_pattern f a b w) (safer_patterns es a b w)) h
    safer_pattern (tree p (case_of e cs)) a b w h = both_none _ _ _ _ (safer_pattern e a b w) (safer_pattern_clauses cs a b w) h
    safer_pattern (tree p _) a b w h = refl

    safer_patterns : (es : Trees) (a b : List NameSet) → Safer a b → patterns_faults all es b ≡ [] → patterns_faults all es a ≡ []
    safer_patterns end a b w h = refl
    safer_patterns (more e es) a b w h = both_none _ _ _ _ (safer_pattern e a b w) (safer_patterns es a b w) h

    safer_pattern_guards : (gs : Guards) (a b : List NameSet) → Safer a b → pattern_guards_faults all gs b ≡ [] → pattern_guards_faults all gs a ≡ []
    safer_pattern_guards no_guard a b w h = refl
    safer_pattern_guards (or_guard es gs) a b w h = both_none _ _ _ _ (safer_patterns es a b w) (safer_pattern_guards gs a b w) h

    safer_pattern_clauses : (cs : Clauses) (a b : List NameSet) → Safer a b → pattern_clauses_faults all cs b ≡ [] → pattern_clauses_faults all cs a ≡ []
    safer_pattern_clauses no_clauses a b w h = refl
    safer_pattern_clauses (clause p ps g body cs) a b w h =
        both_none _ _ _ _ (safer_patterns ps a b w)
        (both_none _ _ _ _ (safer_pattern_guards g a b w) (both_none _ _ _ _ (safer_patterns body a b w) (safer_pattern_clauses cs a b w))) h

  mutual
    pub safer_faults : (e : Tree) (a b : List NameSet) → Safer a b → faults all e b ≡ [] → faults all e a ≡ []
    safer_faults (tree p (var n)) a b w h = safer_uses p n a b w h
    safer_faults (tree p any) a b w h = absurd (cc)
    safer_faults (tree p (list es)) a b w h = safer_all es a b w h
    safer_faults (tree p (list_to es e)) a b w h = both_none _ _ _ _ (safer_all es a b w) (safer_faults e a b w) h
    safer_faults (tree p (tuple es)) a b w h = safer_all es a b w h
    safer_faults (tree p (matching q e)) a b w h = both_none _ _ _ _ (safer_faults e a b w) (safer_pattern q _ _ (safer_after _ _ _ (grows_ways e) a b w)) h
    safer_faults (tree p (call f es)) a b w h = both_none _ _ _ _ (safer_faults f a b w) (safer_all es a b w) h
    safer_faults (tree p (remote m f es)) a b w h = both_none _ _ _ _ (safer_faults m a b w) (both_none _ _ _ _ (safer_faults f a b w) (safer_all es a b w)) h
    safer_faults (tree p (case_of e cs)) a b w h = both_none _ _ _ _ (safer_faults e a b w) (safer_clauses cs _ _ (safer_after _ _ _ (grows_ways e) a b w)) h
    safer_faults (tree p _) a b w h = refl

    safer_all : (es : Trees) (a b : List NameSet) → Safer a b → all_faults all es b ≡ [] → all_faults all es a ≡ []
    safer_all end a b w h = refl
    safer_all (more e es) a b w h = both_none _ _ _ _ (safer_faults e a b w) (safer_all es a b w) h

    pub safer_body : (es : Trees) (a b : List NameSet) → Safer a b → body_faults all es b ≡ [] → body_faults all es a ≡ []
    safer_body end a b w h = refl
    safer_body (more e es) a b w h = both_none _ _ _ _ (safer_faults e a b w) (safer_body es _ _ (safer_after _ _ _ (grows_ways e) a b w)) h

    safer_guards : (gs : Guards) (a b : List NameSet) → Safer a b → guards_faults all gs b ≡ [] → guards_faults all gs a ≡ []
    safer_guards no_guard a b w h = refl
    safer_guards (or_guard es gs) a b w h = both_none _ _ _ _ (safer_body es a b w) (safer_guards gs _ _ (safer_after _ _ _ (grows_body es) a b w)) h

    pub safer_clauses : (cs : Clauses) (a b : List NameSet) → Safer a b → clauses_faults all cs b ≡ [] → clauses_faults all cs a ≡ []
    safer_clauses no_clauses a b w h = refl
    safer_clauses (clause p ps g body cs) a b w h =
        let inside = safer_after _ _ _ (grows_bind (all_names ps)) a b w in
        both_none _ _ _ _ (safer_patterns ps a b w)
        (both_none _ _ _ _ (safer_guards g _ _ inside) (both_none _ _ _ _ (safer_body body _ _ inside) (safer_clauses cs a b w))) h

-- a use without a fault is of a bound name
pub used_bound : (texts : Texts) (p : Place) (n : Name) (s : NameSet) → use_faults texts p n (s ∷ []) ≡ [] → s n.index ≡ true
used_bound texts p n s none = sym (and_true (s n.index)) ∙ bound_use (unsafe texts p n) (unbound texts p n) (on_all n (s ∷ [])) (on_some n (s ∷ [])) none

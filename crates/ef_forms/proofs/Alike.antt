-- Lists of ways that agree in what is on some way and in what is on every way.
use Rattle.std.proofs.Common.{◌≡◌, refl, sym, ap, ◌∙◌}
use Rattle.std.specs.Prelude.{List, ◌||◌}
use Rattle.std.specs.List.{flat_map}
use Rattle.std.specs.Prelude.{true}
use Rattle.ef_base.specs.declared.name.Name.{Name}
use Rattle.ef_base.specs.declared.fault.Place.{Place}
use Rattle.ef_base.specs.Texts.{Texts}
use Rattle.ef_forms.specs.Tree.{Tree, Trees, Guards, Clauses, tree, var, list, list_to, tuple, matching, call, remote, case_of, end, more, no_guard, or_guard, no_clauses, clause}
use Rattle.ef_forms.specs.Ways.{NameSet, Way, all_names, on_some, on_all, use_faults, name_faults, pattern_faults, patterns_faults, pattern_clauses_faults, faults, all_faults, body_faults, clauses_faults, pattern_guards_faults, guards_faults}
use Rattle.ef_forms.proofs.Growth.{given, Grows, grows_bind, after_given, after_some, after_all}
use Rattle.ef_forms.proofs.Grows.{grows_ways, grows_body}
use Rattle.ef_forms.proofs.Ways.{both}

pub record Alike (a b : List NameSet) : Type 0 where
  pub here : given a ≡ true
  pub there : given b ≡ true
  pub some : (x : Name) → on_some x a ≡ on_some x b
  pub all : (x : Name) → on_all x a ≡ on_all x b

pub alike_same : (a : List NameSet) → given a ≡ true → Alike a a
alike_same a h = record { here = h; there = h; some = λ x. refl; all = λ x. refl }

pub alike_sym : (a b : List NameSet) → Alike a b → Alike b a
alike_sym a b h = record { here = h.there; there = h.here; some = λ x. sym (h.some x); all = λ x. sym (h.all x) }

pub alike_trans : (a b c : List NameSet) → Alike a b → Alike b c → Alike a c
alike_trans a b c p q = record { here = p.here; there = q.there; some = λ x. p.some x ∙ q.some x; all = λ x. p.all x ∙ q.all x }

pub alike_after : (f : Way) (m M : NameSet) → Grows f m M → (a b : List NameSet) → Alike a b → Alike (flat_map f a) (flat_map f b)
alike_after f m M g a b h = record {
  here = after_given f m M g a h.here;
  there = after_given f m M g b h.there;
  some = λ x. after_some f m M g a h.here x ∙ ap (λ z. z || m x.index) (h.some x) ∙ sym (after_some f m M g b h.there x);
  all = λ x. after_all f m M g a h.here x ∙ ap (λ z. z || M x.index) (h.all x) ∙ sym (after_all f m M g b h.there x);
}

module _ (all : Texts) where
  same_use : (p : Place) (n : Name) (a b : List NameSet) → Alike a b → use_faults all p n a ≡ use_faults all p n b
  same_use p n a b h = rw (h.all n, h.some n) refl

  same_name : (p : Place) (n : Name) (a b : List NameSet) → Alike a b → name_faults all p n a ≡ name_faults all p n b
  same_name p n a b h = rw (h.all n, h.some n) refl

  mutual
    pub same_pattern_faults : (e : Tree) (a b : List NameSet) → Alike a b → pattern_faults all e a ≡ pattern_faults all e b
    same_pattern_faults (tree p (var n)) a b h = same_name p n a b h
    same_pattern_faults (tree p (list es)) a b h = same_patterns_faults es a b h
    same_pattern_faults (tree p (list_to es e)) a b h = both (same_patterns_faults es a b h) (same_pattern_faults e a b h)
    same_pattern_faults (tree p (tuple es)) a b h = same_patterns_faults es a b h
    same_pattern_faults (tree p (matching q e)) a b h = both (same_pattern_faults q a b h) (same_pattern_faults e a b h)
    same_pattern_faults (tree p (call f es)) a b h = both (same_pattern_faults f a b h) (same_patterns_faults es a b h)
    same_pattern_faults (tree p (remote m f es)) a b h = both (same_pattern_faults m a b h) (both (same_pattern_faults f a b h) (same_patterns_faults es a b h))
    same_pattern_faults (tree p (case_of e cs)) a b h = both (same_pattern_faults e a b h) (same_pattern_clauses_faults cs a b h)
    same_pattern_faults (tree p _) a b h = refl

    pub same_patterns_faults : (es : Trees) (a b : List NameSet) → Alike a b → patterns_faults all es a ≡ patterns_faults all es b
    same_patterns_faults end a b h = refl
    same_patterns_faults (more e es) a b h = both (same_pattern_faults e a b h) (same_patterns_faults es a b h)

    pub same_pattern_guards_faults : (gs : Guards) (a b : List NameSet) → Alike a b → pattern_guards_faults all gs a ≡ pattern_guards_faults all gs b
    same_pattern_guards_faults no_guard a b h = refl
    same_pattern_guards_faults (or_guard es gs) a b h = both (same_patterns_faults es a b h) (same_pattern_guards_faults gs a b h)

    pub same_pattern_clauses_faults : (cs : Clauses) (a b : List NameSet) → Alike a b → pattern_clauses_faults all cs a ≡ pattern_clauses_faults all cs b
    same_pattern_clauses_faults no_clauses a b h = refl
    same_pattern_clauses_faults (clause p ps g body cs) a b h =
        both (same_patterns_faults ps a b h) (both (same_pattern_guards_faults g a b h) (both (same_patterns_faults body a b h) (same_pattern_clauses_faults cs a b h)))

  mutual
    pub same_faults : (e : Tree) (a b : List NameSet) → Alike a b → faults all e a ≡ faults all e b
    same_faults (tree p (var n)) a b h = same_use p n a b h
    same_faults (tree p (list es)) a b h = same_all_faults es a b h
    same_faults (tree p (list_to es e)) a b h = both (same_all_faults es a b h) (same_faults e a b h)
    same_faults (tree p (tuple es)) a b h = same_all_faults es a b h
    same_faults (tree p (matching q e)) a b h = both (same_faults e a b h) (same_pattern_faults q _ _ (alike_after _ _ _ (grows_ways e) a b h))
    same_faults (tree p (call f es)) a b h = both (same_faults f a b h) (same_all_faults es a b h)
    same_faults (tree p (remote m f es)) a b h = both (same_faults m a b h) (both (same_faults f a b h) (same_all_faults es a b h))
    same_faults (tree p (case_of e cs)) a b h = both (same_faults e a b h) (same_clauses_faults cs _ _ (alike_after _ _ _ (grows_ways e) a b h))
    same_faults (tree p _) a b h = refl

    pub same_all_faults : (es : Trees) (a b : List NameSet) → Alike a b → all_faults all es a ≡ all_faults all es b
    same_all_faults end a b h = refl
    same_all_faults (more e es) a b h = both (same_faults e a b h) (same_all_faults es a b h)

    pub same_body_faults : (es : Trees) (a b : List NameSet) → Alike a b → body_faults all es a ≡ body_faults all es b
    same_body_faults end a b h = refl
    same_body_faults (more e es) a b h = both (same_faults e a b h) (same_body_faults es _ _ (alike_after _ _ _ (grows_ways e) a b h))

    pub same_guards_faults : (gs : Guards) (a b : List NameSet) → Alike a b → guards_faults all gs a ≡ guards_faults all gs b
    same_guards_faults no_guard a b h = refl
    same_guards_faults (or_guard es gs) a b h = both (same_body_faults es a b h) (same_guards_faults gs _ _ (alike_after _ _ _ (grows_body es) a b h))

    pub same_clauses_faults : (cs : Clauses) (a b : List NameSet) → Alike a b → clauses_faults all cs a ≡ clauses_faults all cs b
    same_clauses_faults no_clauses a b h = refl
    same_clauses_faults (clause p ps g body cs) a b h =
        let inside = alike_after _ _ _ (grows_bind (all_names ps)) a b h in
        both (same_patterns_faults ps a b h) (both (same_guards_faults g _ _ inside) (both (same_body_faults body _ _ inside) (same_clauses_faults cs a b h)))

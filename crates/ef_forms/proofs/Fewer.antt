-- Within a list of ways there are no more faults.
use Rattle.std.proofs.Common.{◌≡◌, refl}
use Rattle.std.specs.Prelude.{List, [], ◌∷◌, ◌++◌, Bool, true, false, if◌then◌else◌}
use Rattle.ef_base.specs.declared.name.Name.{Name}
use Rattle.ef_base.specs.declared.fault.Place.{Place}
use Rattle.ef_base.specs.Texts.{Texts}
use Rattle.ef_forms.specs.Tree.{Tree, Trees, Guards, Clauses, tree, var, any, list, list_to, tuple, matching, call, remote, case_of, end, more, no_guard, or_guard, no_clauses, clause}
use Rattle.ef_forms.specs.Ways.{NameSet, all_names, on_some, on_all, unbound, unsafe, use_faults, name_faults, pattern_faults, patterns_faults, pattern_clauses_faults, faults, all_faults, body_faults, clauses_faults, pattern_guards_faults, guards_faults}
use Rattle.ef_forms.proofs.Within.{Within, within_ways, within_body, within_bind}

no_first : {A : Type 0} (a b : List A) → a ++ b ≡ [] → a ≡ []
no_first [] b h = refl
no_first (x ∷ a) b h = cc

no_second : {A : Type 0} (a b : List A) → a ++ b ≡ [] → b ≡ []
no_second [] b h = h
no_second (x ∷ a) b h = cc

-- two lists are empty where two others are
both_none : {A : Type 0} (a b c d : List A) → (a ≡ [] → c ≡ []) → (b ≡ [] → d ≡ []) → a ++ b ≡ [] → c ++ d ≡ []
both_none a b c d p q h = rw (p (no_first a b h), q (no_second a b h)) refl

bound_use : {A : Type 0} (x y : A) (every some : Bool) → (if every then [] else (if some then (x ∷ []) else (y ∷ []))) ≡ [] → every ≡ true
bound_use x y true some k = refl
bound_use x y false true k = cc
bound_use x y false false k = cc

safe_name : {A : Type 0} (x : A) (every some every' some' : Bool) → (every ≡ true → every' ≡ true) → (some' ≡ true → some ≡ true)
    → (if every then [] else (if some then (x ∷ []) else [])) ≡ [] → (if every' then [] else (if some' then (x ∷ []) else [])) ≡ []
safe_name x every some true some' h k none = refl
safe_name x every some false false h k none = refl
safe_name x true some false true h k none = let f : false ≡ true = h refl in cc
safe_name x false true false true h k none = cc
safe_name x false false false true h k none = let f : false ≡ true = k refl in cc

module _ (all : Texts) where
  fewer_uses : (p : Place) (n : Name) (a b : List NameSet) → Within a b → use_faults all p n b ≡ [] → use_faults all p n a ≡ []
  fewer_uses p n a b w h = rw (w.all n (bound_use (unsafe all p n) (unbound all p n) (on_all n b) (on_some n b) h)) refl

  fewer_names : (p : Place) (n : Name) (a b : List NameSet) → Within a b → name_faults all p n b ≡ [] → name_faults all p n a ≡ []
  fewer_names p n a b w h = safe_name (unsafe all p n) (on_all n b) (on_some n b) (on_all n a) (on_some n a) (w.all n) (w.some n) h

  mutual
    pub fewer_pattern_faults : (e : Tree) (a b : List NameSet) → Within a b → pattern_faults all e b ≡ [] → pattern_faults all e a ≡ []
    fewer_pattern_faults (tree p (var n)) a b w h = fewer_names p n a b w h
    fewer_pattern_faults (tree p (list es)) a b w h = fewer_patterns_faults es a b w h
    fewer_pattern_faults (tree p (list_to es e)) a b w h = both_none _ _ _ _ (fewer_patterns_faults es a b w) (fewer_pattern_faults e a b w) h
    fewer_pattern_faults (tree p (tuple es)) a b w h = fewer_patterns_faults es a b w h
    fewer_pattern_faults (tree p (matching q e)) a b w h = both_none _ _ _ _ (fewer_pattern_faults q a b w) (fewer_pattern_faults e a b w) h
    fewer_pattern_faults (tree p (call f es)) a b w h = both_none _ _ _ _ (fewer_pattern_faults f a b w) (fewer_patterns_faults es a b w) h
    fewer_pattern_faults (tree p (remote m f es)) a b w h = both_none _ _ _ _ (fewer_pattern_faults m a b w) (both_none _ _ _ _ (fewer_pattern_faults f a b w) (fewer_patterns_faults es a b w)) h
    fewer_pattern_faults (tree p (case_of e cs)) a b w h = both_none _ _ _ _ (fewer_pattern_faults e a b w) (fewer_pattern_clauses_faults cs a b w) h
    fewer_pattern_faults (tree p _) a b w h = refl

    pub fewer_patterns_faults : (es : Trees) (a b : List NameSet) → Within a b → patterns_faults all es b ≡ [] → patterns_faults all es a ≡ []
    fewer_patterns_faults end a b w h = refl
    fewer_patterns_faults (more e es) a b w h = both_none _ _ _ _ (fewer_pattern_faults e a b w) (fewer_patterns_faults es a b w) h

    pub fewer_pattern_guards_faults : (gs : Guards) (a b : List NameSet) → Within a b → pattern_guards_faults all gs b ≡ [] → pattern_guards_faults all gs a ≡ []
    fewer_pattern_guards_faults no_guard a b w h = refl
    fewer_pattern_guards_faults (or_guard es gs) a b w h = both_none _ _ _ _ (fewer_patterns_faults es a b w) (fewer_pattern_guards_faults gs a b w) h

    pub fewer_pattern_clauses_faults : (cs : Clauses) (a b : List NameSet) → Within a b → pattern_clauses_faults all cs b ≡ [] → pattern_clauses_faults all cs a ≡ []
    fewer_pattern_clauses_faults no_clauses a b w h = refl
    fewer_pattern_clauses_faults (clause p ps g body cs) a b w h =
        both_none _ _ _ _ (fewer_patterns_faults ps a b w)
        (both_none _ _ _ _ (fewer_pattern_guards_faults g a b w) (both_none _ _ _ _ (fewer_patterns_faults body a b w) (fewer_pattern_clauses_faults cs a b w))) h

  mutual
    pub fewer_faults : (e : Tree) (a b : List NameSet) → Within a b → faults all e b ≡ [] → faults all e a ≡ []
    fewer_faults (tree p (var n)) a b w h = fewer_uses p n a b w h
    fewer_faults (tree p any) a b w h = cc
    fewer_faults (tree p (list es)) a b w h = fewer_all_faults es a b w h
    fewer_faults (tree p (list_to es e)) a b w h = both_none _ _ _ _ (fewer_all_faults es a b w) (fewer_faults e a b w) h
    fewer_faults (tree p (tuple es)) a b w h = fewer_all_faults es a b w h
    fewer_faults (tree p (matching q e)) a b w h = both_none _ _ _ _ (fewer_faults e a b w) (fewer_pattern_faults q _ _ (within_ways a b w e)) h
    fewer_faults (tree p (call f es)) a b w h = both_none _ _ _ _ (fewer_faults f a b w) (fewer_all_faults es a b w) h
    fewer_faults (tree p (remote m f es)) a b w h = both_none _ _ _ _ (fewer_faults m a b w) (both_none _ _ _ _ (fewer_faults f a b w) (fewer_all_faults es a b w)) h
    fewer_faults (tree p (case_of e cs)) a b w h = both_none _ _ _ _ (fewer_faults e a b w) (fewer_clauses_faults cs _ _ (within_ways a b w e)) h
    fewer_faults (tree p _) a b w h = refl

    pub fewer_all_faults : (es : Trees) (a b : List NameSet) → Within a b → all_faults all es b ≡ [] → all_faults all es a ≡ []
    fewer_all_faults end a b w h = refl
    fewer_all_faults (more e es) a b w h = both_none _ _ _ _ (fewer_faults e a b w) (fewer_all_faults es a b w) h

    pub fewer_body_faults : (es : Trees) (a b : List NameSet) → Within a b → body_faults all es b ≡ [] → body_faults all es a ≡ []
    fewer_body_faults end a b w h = refl
    fewer_body_faults (more e es) a b w h = both_none _ _ _ _ (fewer_faults e a b w) (fewer_body_faults es _ _ (within_ways a b w e)) h

    pub fewer_guards_faults : (gs : Guards) (a b : List NameSet) → Within a b → guards_faults all gs b ≡ [] → guards_faults all gs a ≡ []
    fewer_guards_faults no_guard a b w h = refl
    fewer_guards_faults (or_guard es gs) a b w h = both_none _ _ _ _ (fewer_body_faults es a b w) (fewer_guards_faults gs _ _ (within_body a b w es)) h

    pub fewer_clauses_faults : (cs : Clauses) (a b : List NameSet) → Within a b → clauses_faults all cs b ≡ [] → clauses_faults all cs a ≡ []
    fewer_clauses_faults no_clauses a b w h = refl
    fewer_clauses_faults (clause p ps g body cs) a b w h =
        let inside = within_bind a b w (all_names ps) in
        both_none _ _ _ _ (fewer_patterns_faults ps a b w)
        (both_none _ _ _ _ (fewer_guards_faults g _ _ inside) (both_none _ _ _ _ (fewer_body_faults body _ _ inside) (fewer_clauses_faults cs a b w))) h

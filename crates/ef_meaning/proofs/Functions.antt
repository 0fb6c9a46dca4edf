-- Functions by clauses are kept.
use Rattle.std.proofs.Common.{◌≡◌, ◌<◌, ◌+◌, ◌==◌, ℕ, inl, inr, Bool, true, false, if◌then◌else◌, List, [], ◌∷◌, ◌++◌, length, map, Some, refl, sym, ap, ◌∙◌, subst, arith}
use Rattle.std.proofs.lemmas.Bool.{and_from}
use Rattle.std.proofs.lemmas.Bool.Decides.{nat_tests}
use Rattle.ef_base.specs.declared.name.Name.{Name}
use Rattle.ef_base.specs.Texts.{Texts, Extends}
use Rattle.ef_core.specs.declared.literal.CoreVar.{CoreVar}
use Rattle.ef_core.specs.declared.literal.CoreVar.TheVariants.{Numbered, Named}
use Rattle.ef_core.specs.Conditions.{NoneTwice}
use Rattle.ef_core.specs.Scope.{IsAmong}
use Rattle.ef_core.specs.Plain as plain
use Rattle.ef_core.specs.Plain.{ClauseTree, clauses}
use Rattle.ef_core.specs.Tree as to
use Rattle.ef_core.specs.Tree.{CoreTree, PatTrees}
use Rattle.ef_forms.specs.Tree.{Clauses}
use Rattle.ef_meaning.specs.Value.{Value}
use Rattle.ef_meaning.specs.Exception.{Error, function_clause}
use Rattle.ef_meaning.specs.End.{Gives, Raises, Wrong, and_then}
use Rattle.ef_meaning.specs.Source as source
use Rattle.ef_meaning.specs.Source.{by_clauses}
use Rattle.ef_meaning.specs.Core as core
use Rattle.ef_meaning.specs.Core.{CoreModule, Vars, Funs, Target, same_var, value_at}
use Rattle.ef_meaning.specs.Lowers.{params_from, AreValues, Related, SameValue, Exports, KeepsFunction}
use Rattle.ef_meaning.specs.Patterns.{IsGuard, KeepsPicks}
use Rattle.ef_meaning.specs.Cases.{AreSet, FailsFunction, together, variables, last_clause, function_case}
use Rattle.ef_meaning.proofs.Ends.{begins_refl}
use Rattle.ef_meaning.proofs.CoreLaws as core_laws
use Rattle.ef_meaning.proofs.Simulate.{keeps_same, const_keeps, map_keeps}
use Rattle.ef_meaning.proofs.Variables.{value_eval, values_eval}
use Rattle.ef_meaning.proofs.Bodies.{clause_keeps, one_export}
use Rattle.ef_meaning.proofs.Picks.{all_fit, clause_taken, pick_append}
use Rattle.ef_meaning.proofs.Fails.{value_here}

-- ---- variables that are set

same_is : (x y : CoreVar) → same_var x y ≡ true → x ≡ y
same_is (Numbered i) (Numbered j) p = let is : i ≡ j = grind (arith, nat_tests) in ap Numbered is
same_is (Named m) (Named n) p = let is : m.index ≡ n.index = grind (arith, nat_tests) in ap (λ (k : ℕ). let name : Name = record { index = k } in Named name) is
same_is (Numbered i) (Named n) p = absurd cc
same_is (Named m) (Numbered j) p = absurd cc

abbrev pub IsSet : CoreVar → Vars → Type 0
IsSet y c = (v : Value) × (value_at y c ≡ Some v)

-- another variable stays as it is
pub value_there : (x y : CoreVar) (v : Value) (c : Vars) → (x ≡ y → ⊥) → value_at y ((x, v) ∷ c) ≡ value_at y c
value_there x y v c apart = by (same_var x y) refl
  where
    by : (t : Bool) → same_var x y ≡ t → (if t then Some v else value_at y c) ≡ value_at y c
    by true e = absurd (apart (same_is x y e))
    by false e = refl

pub set_more : (x y : CoreVar) (v : Value) (c : Vars) → IsSet y c → IsSet y ((x, v) ∷ c)
set_more x y v c p = by (same_var x y)
  where
    by : (t : Bool) → (u : Value) × ((if t then Some v else value_at y c) ≡ Some u)
    by true = (v, refl)
    by false = p

-- what these do not set stays
pub bound_there : (xs : List CoreVar) (vs : List Value) (c d : Vars) (y : CoreVar) → (IsAmong xs y → ⊥) → core.bind xs vs c ≡ Some d → value_at y d ≡ value_at y c
bound_there [] [] c d y apart p = let same : c ≡ d = cc in ap (value_at y) (sym same)
bound_there [] (v ∷ vs) c d y apart p = absurd cc
bound_there (x ∷ xs) [] c d y apart p = absurd cc
bound_there (x ∷ xs) (v ∷ vs) c d y apart p = bound_there xs vs ((x, v) ∷ c) d y (λ h. apart (inr h)) p ∙ value_there x y v c (λ e. apart (inl (sym e)))

-- variables that differ take as many values
pub bound_values : (all : Texts) (xs : List CoreVar) (vs : List Value) (c : Vars) → NoneTwice xs → length vs ≡ length xs → (d : Vars) × (core.bind xs vs c ≡ Some d) × AreValues all (variables xs) vs d
bound_values all [] [] c differ len = (c, refl, tt)
bound_values all [] (v ∷ vs) c differ len = absurd cc
bound_values all (x ∷ xs) [] c differ len = absurd cc
bound_values all (x ∷ xs) (v ∷ vs) c differ len =
    let rest = bound_values all xs vs ((x, v) ∷ c) differ.1 (omega arith) in
    (rest.0, rest.1, (bound_there xs vs ((x, v) ∷ c) rest.0 x differ.0 rest.1 ∙ value_here x v c, rest.2))

-- variables from a number on differ
not_later : (m n : ℕ) (xs : List Name) → m < n → IsAmong (params_from n xs) (Numbered m) → ⊥
not_later m n [] lt h = h
not_later m n (x ∷ xs) lt (inl e) = let same : m ≡ n = cc in absurd (omega arith)
not_later m n (x ∷ xs) lt (inr h) = not_later m (n + 1) xs (omega arith) h

pub params_differ : (n : ℕ) (xs : List Name) → NoneTwice (params_from n xs)
params_differ n [] = tt
params_differ n (x ∷ xs) = (λ h. not_later n (n + 1) xs (omega arith) h, params_differ (n + 1) xs)

-- ---- several values at once

pub together_eval : (w : CoreModule) (es : List CoreTree) (vs : List Value) (ls : core.Levels) (d : Vars) (fs : Funs) (t : Target) → AreValues w.texts es vs d → core.eval w (together es) ls d fs t ≡ Gives vs t
together_eval w [] [] ls d fs t p = refl
together_eval w [] (v ∷ vs) ls d fs t p = absurd p
together_eval w (e ∷ es) [] ls d fs t p = absurd p
together_eval w (e ∷ []) (v ∷ []) ls d fs t p = value_eval w e v ls d fs t p.0
together_eval w (e ∷ []) (v ∷ u ∷ vs) ls d fs t p = absurd p.1
together_eval w (e ∷ f ∷ es) (v ∷ vs) ls d fs t p = values_eval w (e ∷ f ∷ es) (v ∷ vs) ls d fs t p

-- ---- the last clause

-- it matches, and sets its variables
last_matches : (all : Texts) (ys : List CoreVar) (vs : List Value) (c : Vars) → length vs ≡ length ys → (d : Vars) × (core.match_all all (plain.pats (map (λ y. to.pat_var y) ys)) vs c ≡ Some d) × AreSet ys d × ((y : CoreVar) → IsSet y c → IsSet y d)
last_matches all [] [] c len = (c, refl, tt, λ y p. p)
last_matches all [] (v ∷ vs) c len = absurd cc
last_matches all (y ∷ ys) [] c len = absurd cc
last_matches all (y ∷ ys) (v ∷ vs) c len =
    let rest = last_matches all ys vs ((y, v) ∷ c) (omega arith) in
    (rest.0, rest.1, (rest.3 y (v, value_here y v c), rest.2), λ x p. rest.3 x (set_more y x v c p))

last_count : (ys : List CoreVar) → core.pat_count (plain.pats (map (λ y. to.pat_var y) ys)) ≡ length ys
last_count [] = refl
last_count (y ∷ ys) = let rest = last_count ys in omega arith

last_built : (ys : List CoreVar) → core.are_built (plain.pats (map (λ y. to.pat_var y) ys)) ≡ true
last_built [] = refl
last_built (y ∷ ys) = last_built ys

last_fits : (n : ℕ) (ys : List CoreVar) → n ≡ length ys → core.can_match n (plain.pats (map (λ y. to.pat_var y) ys)) ≡ true
last_fits n ys len =
    let p : PatTrees = plain.pats (map (λ y. to.pat_var y) ys) in
    let number : core.pat_count p ≡ n = last_count ys ∙ sym len in
    and_from (core.pat_count p == n) (core.are_built p) (grind (arith, nat_tests)) (last_built ys)

-- a function by clauses, as one choice over its parameters
pub function_body_keeps : (now : Texts) (cs : Clauses) (params : List CoreVar) (made : List ClauseTree) (guard : CoreTree) (ys : List CoreVar) (fails : CoreTree) → NoneTwice params → length ys ≡ length params → IsGuard now [] guard → FailsFunction now ys fails →
    KeepsPicks now cs [] [] made → KeepsFunction now (by_clauses cs []) params (function_case params made guard ys fails)
function_body_keeps now cs params made guard ys fails differ count always failing k = record {
  made = k.entries;
  bodies = k.bodies;
  keeps = λ w cw world all inc n calls en vs s t same len.
      let later : Extends now cw.texts = subst (Extends now) (sym world.texts) world.begins in
      let i = bound_values cw.texts params vs [] differ len in
      let c : Vars = i.0 in
      let Picked = λ (m : ℕ). core.pick cw (clauses made) vs (core.levels cw m) c [] (λ u. u) (λ u. core.pick cw (clauses (last_clause guard ys fails ∷ [])) vs (core.levels cw m) c [] (λ x. x) (λ x. Wrong) u) t in
      let last : (m : ℕ) (u : Target) → core.pick cw (clauses (last_clause guard ys fails ∷ [])) vs (core.levels cw m) c [] (λ x. x) (λ x. Wrong) u ≡ Raises Error function_clause u = λ m u.
      let matched = last_matches cw.texts ys vs c (len ∙ sym count) in
      clause_taken now [] guard always cw later (plain.pats (map (λ y. to.pat_var y) ys)) fails to.no_clauses vs (core.levels cw m) c matched.0 [] (λ x. x) (λ x. Wrong) u true matched.1 refl
      ∙ failing.raises cw later (core.levels cw m) matched.0 [] u matched.2 in
      let everything = clauses (made ++ last_clause guard ys fails ∷ []) in
      clause_keeps SameValue (Related cw all en) n (source.are_wide (length vs) cs) _ _ (λ wide.
      let fits = all_fit (length vs) made (last_clause guard ys fails ∷ []) (k.fits (length vs) wide) (and_from (core.can_match (length vs) (plain.pats (map (λ y. to.pat_var y) ys))) true (last_fits (length vs) ys (len ∙ sym count)) refl) in
      keeps_same SameValue (Related cw all en) n _ (source.value_only (source.pick w cs vs (source.levels w n) [] (λ u. u) (λ u. Raises Error function_clause u) s)) _ Picked refl
      (λ j m. (ap (λ o. core.run_body cw (core.levels cw m) (function_case params made guard ys fails) [] o t) i.1
      ∙ ap (λ o. and_then o (λ us u. if core.all_can_match (length us) everything then core.pick cw everything us (core.levels cw m) c [] (λ x. x) (λ x. Wrong) u else Wrong)) (together_eval cw (variables params) vs (core.levels cw m) c [] t i.2)
      ∙ ap (λ b. if b then core.pick cw everything vs (core.levels cw m) c [] (λ x. x) (λ x. Wrong) t else Wrong) fits
      ∙ pick_append cw made (last_clause guard ys fails ∷ []) vs (core.levels cw m) c [] (λ x. x) (λ x. Wrong) t) j)
      (map_keeps (Exports []) SameValue (Related cw all en) n (source.pick w cs vs (source.levels w n) [] (λ u. u) (λ u. Raises Error function_clause u) s) Picked (λ a. a.0)
      (λ j l le. core_laws.pick_extends cw (clauses made) vs (core.levels cw j) (core.levels cw l) c [] (λ u. u) _ _ t (core_laws.levels_below cw j l le) (core_laws.levels_grow cw l) (λ u. begins_refl u.outside.events)
      (λ u. core_laws.pick_extends cw (clauses (last_clause guard ys fails ∷ [])) vs (core.levels cw j) (core.levels cw l) c [] (λ x. x) (λ x. Wrong) (λ x. Wrong) u (core_laws.levels_below cw j l le) (core_laws.levels_grow cw l) (λ x. begins_refl x.outside.events) (λ x. refl) (λ x. tt))
      (λ u. core_laws.pick_ahead cw (clauses (last_clause guard ys fails ∷ [])) vs (core.levels cw l) c [] (λ x. x) (λ x. Wrong) u (core_laws.levels_grow cw l) (λ x. begins_refl x.outside.events) (λ x. tt)))
      (λ a us ex. one_export a us ex)
      (k.keeps vs [] c (record { each = λ x. tt }) w cw world all inc n calls en [] s t (record { each = λ f g found. refl }) same (λ u. u) (λ u. u) (λ u. Raises Error function_clause u)
      (λ m u. core.pick cw (clauses (last_clause guard ys fails ∷ [])) vs (core.levels cw m) c [] (λ x. x) (λ x. Wrong) u)
      (λ x y q. q)
      (λ x y q. keeps_same (Exports []) (Related cw all en) n _ (Raises Error function_clause x) _ (λ m. Raises Error function_clause y) refl (λ j m. last m y j) (const_keeps (Exports []) (Related cw all en) n (Raises Error function_clause x) (Raises Error function_clause y) (refl, refl, q))))));
}

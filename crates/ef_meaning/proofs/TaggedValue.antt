-- A function with a `case`: f(X) -> case X of {ok, Y} -> Y; {error, Y} -> Y end, Y. By the lemmas of the lowering.
use Rattle.std.proofs.Common.{◌≡◌, ◌+◌, ◌==◌, ◌||◌, ◌&&◌, ℕ, Bool, true, false, if◌then◌else◌, List, [], ◌∷◌, ◌++◌, Option, Some, None, refl, sym, subst, arith}
use Rattle.ef_base.specs.declared.name.Name.{Name}
use Rattle.ef_base.specs.Texts.{Texts}
use Rattle.ef_core.specs.declared.env.Bind.{Bind}
use Rattle.ef_core.specs.declared.literal.CoreVar.TheVariants.{Numbered}
use Rattle.ef_core.specs.Env.{bind, held}
use Rattle.ef_core.specs.Plain as plain
use Rattle.ef_core.specs.Tree as to
use Rattle.ef_core.specs.Tree.{PatTrees}
use Rattle.ef_forms.specs.Tree.{Trees, no_clauses}
use Rattle.ef_forms.specs.Plain.{trees}
use Rattle.ef_forms.specs.Sure.{clauses_sure}
use Rattle.ef_meaning.specs.Value.{Value, Values, elements, none, some, with_some}
use Rattle.ef_meaning.specs.Same.{same_value}
use Rattle.ef_meaning.specs.Exception.{case_clause}
use Rattle.ef_meaning.specs.Match.{Bindings, match_name, value_of}
use Rattle.ef_meaning.specs.Match as source_match
use Rattle.ef_meaning.specs.Core as core
use Rattle.ef_meaning.specs.Core.{Vars}
use Rattle.ef_meaning.specs.Lowers.{AreBelow, Agree, Describes, KeepsBody, KeepsDefinition}
use Rattle.ef_meaning.specs.Named.{bound_names, name_set}
use Rattle.ef_meaning.specs.Patterns.{HaveValues, KeepsPatterns, KeepsPicks, SameMatch}
use Rattle.ef_meaning.specs.Cases.{FailsFunction, FailsValue}
use Rattle.ef_meaning.specs.Examples as e
use Rattle.ef_meaning.specs.Examples.{table}
use Rattle.ef_meaning.specs.Matching as m
use Rattle.ef_meaning.specs.Branching as b
use Rattle.ef_meaning.proofs.Variables.{agree_refl, agree_more}
use Rattle.ef_meaning.proofs.Bodies.{describes_push, below_push, not_bound}
use Rattle.ef_meaning.proofs.Functions.{function_body_keeps}
use Rattle.ef_meaning.proofs.Fails.{function_step_fails, case_clause_step_fails}
use Rattle.ef_meaning.proofs.Picks.{picks_none, picks_clause}
use Rattle.ef_meaning.proofs.Appends.{var_appends, argument_appends, case_appends, last_appends, expression_appends, finish_keeps, export_keeps}
use Rattle.ef_meaning.proofs.NamedValue.{always, inside, is_fail, one_variable, set_last}

-- ---- a pattern of a word and a variable

no_part : {A B : Type 0} (o : Option A) (d : B) → with_some o (λ a. None) ≡ Some d → ⊥
no_part None d p = absurd cc
no_part (Some a) d p = absurd cc

module _ (now : Texts) (word x : Name) (n : ℕ) (bound : List Bind) (free : held bound x ≡ None) (below : AreBelow n bound) where
  abbrev env : List Bind
  env = bound ++ bind x (Numbered n) ∷ []

  abbrev made : PatTrees
  made = plain.pats (b.tagged_pat word n ∷ [])

  abbrev pattern : Trees
  pattern = trees (m.tuple (e.atom word ∷ e.var x ∷ []) ∷ [])

  -- both matches, of the elements of a tuple
  abbrev core_parts : Texts → Option Values → Vars → Option Vars
  core_parts all o c = with_some o (λ us. core.match_values all (plain.pats (to.pat_lit (to.atom word) ∷ m.pat n ∷ [])) us c)

  abbrev source_parts : Texts → Option Values → Bindings → Option Bindings
  source_parts all o g = with_some o (λ us. source_match.match_values all (trees (e.atom word ∷ e.var x ∷ [])) us g)

  -- what Core's match binds
  bound_part : (all : Texts) (o : Option Values) (c d : Vars) → with_some (core_parts all o c) (λ f. Some f) ≡ Some d → (v : Value) × ((Numbered n, v) ∷ c ≡ d)
  bound_part all None c d p = absurd cc
  bound_part all (Some none) c d p = absurd cc
  bound_part all (Some (some a us)) c d p = by us (same_value (core.literal all (to.atom word)) a) p
    where
      by : (us : Values) (t : Bool) → with_some (with_some (if t then Some c else None) (λ f. core.match_values all (plain.pats (m.pat n ∷ [])) us f)) (λ f. Some f) ≡ Some d → (v : Value) × ((Numbered n, v) ∷ c ≡ d)
      by us false q = absurd cc
      by none true q = absurd cc
      by (some v none) true q = (v, cc)
      by (some v (some u us)) true q = absurd cc

  only_one : (all : Texts) (vs : List Value) (c d : Vars) → core.match_all all made vs c ≡ Some d → (v : Value) × ((Numbered n, v) ∷ c ≡ d)
  only_one all [] c d p = absurd cc
  only_one all (v ∷ []) c d p = bound_part all (elements v) c d p
  only_one all (v ∷ u ∷ vs) c d p = absurd (no_part (core_parts all (elements v) c) d p)

  same_parts : (all : Texts) (o : Option Values) (g : Bindings) (c : Vars) → Describes bound g c → SameMatch env [] (with_some (source_parts all o g) (λ f. Some f)) (with_some (core_parts all o c) (λ f. Some f))
  same_parts all None g c desc = tt
  same_parts all (Some none) g c desc = tt
  same_parts all (Some (some a us)) g c desc = by us (same_value (core.literal all (to.atom word)) a)
    where
      new : value_of x g ≡ None
      new = not_bound bound g c x desc free

      by : (us : Values) (t : Bool) → SameMatch env [] (with_some (with_some (if t then Some g else None) (λ f. source_match.match_values all (trees (e.var x ∷ [])) us f)) (λ f. Some f))
          (with_some (with_some (if t then Some c else None) (λ f. core.match_values all (plain.pats (m.pat n ∷ [])) us f)) (λ f. Some f))
      by us false = tt
      by none true = tt
      by (some v none) true =
          subst (λ o. SameMatch env [] (with_some (with_some (match_name x o v g) (λ f. Some f)) (λ f. Some f)) (Some ((Numbered n, v) ∷ c))) (sym new) (refl, describes_push n bound g c x v below free desc)
      by (some v (some u us)) true = subst (λ o. SameMatch env [] (with_some (with_some (match_name x o v g) (λ (f : Bindings). None)) (λ (f : Bindings). Some f)) None) (sym new) tt

  matches : (all : Texts) (vs : List Value) (g : Bindings) (c : Vars) → Describes bound g c → SameMatch env [] (source_match.match_all all pattern vs g) (core.match_all all made vs c)
  matches all [] g c desc = tt
  matches all (v ∷ []) g c desc = same_parts all (elements v) g c desc
  matches all (v ∷ u ∷ vs) g c desc = no_more (source_parts all (elements v) g) (core_parts all (elements v) c)
    where
      no_more : (o : Option Bindings) (p : Option Vars) → SameMatch env [] (with_some o (λ (f : Bindings). None)) (with_some p (λ (f : Vars). None))
      no_more None None = tt
      no_more None (Some d) = tt
      no_more (Some f) None = tt
      no_more (Some f) (Some d) = tt

  tagged_variable : KeepsPatterns now pattern n bound made [] (n + 1) (bind x (Numbered n) ∷ [])
  tagged_variable = record {
    drawn = omega arith;
    below = below_push n bound x below;
    tests_below = tt;
    fits = refl;
    agree = λ all later vs c d p. let one = only_one all vs c d p in subst (Agree n c) one.1 (agree_more n n c c one.0 (omega arith) (agree_refl n c));
    decided = λ all later vs c d h p. let one = only_one all vs c d p in (subst (HaveValues env) one.1 (set_last now x n bound free below bound one.0 c h), true, refl);
    keeps = λ all later vs g c desc. matches all vs g c desc;
  }

-- ---- the example

no_branch : FailsValue table (Numbered 10) case_clause (m.core_fails e.case_clause_name 10 11)
no_branch = case_clause_step_fails table e.match_fail_name e.case_clause_name (Numbered 10) is_fail (record { within = omega arith; is = refl }) (Numbered 11)

no_clause : FailsFunction table (Numbered 20 ∷ []) (m.core_fails e.function_clause_name 20 21)
no_clause = function_step_fails table e.match_fail_name e.function_clause_name (Numbered 20 ∷ []) is_fail (record { within = omega arith; is = refl }) (Numbered 21)

abbrev in_clause : List Bind
in_clause = inside ++ bind e.y_name (Numbered 2) ∷ []

-- the value of Y, and Y
clause_body : KeepsBody table (e.var e.y_name ∷ []) in_clause (e.y_name ∷ []) (b.both_of 2 2)
clause_body = export_keeps {n0 = 3} (e.y_name ∷ []) (Numbered 2 ∷ []) (refl, tt) (expression_appends (omega arith, (omega arith, tt)) (var_appends e.here e.y_name (Numbered 2) (omega arith, (omega arith, tt)) refl))

picks : KeepsPicks table b.tagged_clauses inside (e.y_name ∷ []) b.core_tagged_clauses
picks =
    picks_clause table e.here (pattern table e.ok_name e.y_name 2 inside refl (omega arith, tt)) (e.var e.y_name ∷ []) 2 inside (made table e.ok_name e.y_name 2 inside refl (omega arith, tt)) [] 3 (bind e.y_name (Numbered 2) ∷ []) (e.y_name ∷ []) m.always (b.both_of 2 2) _ _
    (tagged_variable table e.ok_name e.y_name 2 inside refl (omega arith, tt)) always clause_body
    (picks_clause table e.here (pattern table e.error_name e.y_name 2 inside refl (omega arith, tt)) (e.var e.y_name ∷ []) 2 inside (made table e.error_name e.y_name 2 inside refl (omega arith, tt)) [] 3 (bind e.y_name (Numbered 2) ∷ []) (e.y_name ∷ []) m.always (b.both_of 2 2) no_clauses []
    (tagged_variable table e.error_name e.y_name 2 inside refl (omega arith, tt)) always clause_body (picks_none table inside (e.y_name ∷ [])))

-- both clauses bind Y
both_bind : (y : ℕ) → (bound_names inside y || name_set (e.y_name ∷ []) y) ≡ (bound_names inside y || clauses_sure b.tagged_clauses y)
both_bind y = by (9 == y) (10 == y)
  where
    by : (a t : Bool) → ((a || false) || (t || false)) ≡ ((a || false) || ((((t || false) || false) || (t || false)) && (((t || false) || false) || (t || false))))
    by true t = refl
    by false true = refl
    by false false = refl

body : KeepsBody table (b.branch (e.var e.x_name) b.tagged_clauses ∷ e.var e.y_name ∷ []) inside [] b.tagged_body
body = finish_keeps {n0 = 2} (last_appends
    (case_appends e.here (e.y_name ∷ []) m.always (Numbered 10) (m.core_fails e.case_clause_name 10 11) 2 4
    (argument_appends tt (var_appends e.here e.x_name (Numbered 1) (omega arith, tt) refl)) picks always no_branch both_bind (omega arith) (omega arith))
    (var_appends e.here e.y_name (Numbered 3) (omega arith, (omega arith, tt)) refl))

pub tagged_definition : KeepsDefinition table (record { place = e.here; name = e.f_name; arity = 1; clauses = m.where_matches (e.var e.x_name ∷ []) (b.branch (e.var e.x_name) b.tagged_clauses ∷ e.var e.y_name ∷ []) no_clauses })
    (e.core_function e.f_name 1 (Numbered 0 ∷ []) (m.core_case (e.core_var 0) (m.core_clause (m.pat 1 ∷ []) m.always b.tagged_body ∷ m.core_last e.function_clause_name 20 21 ∷ [])))
tagged_definition = record {
  name = refl;
  arity = refl;
  parameters = refl;
  keeps = function_body_keeps table _ (Numbered 0 ∷ []) (m.core_clause (m.pat 1 ∷ []) m.always b.tagged_body ∷ []) m.always (Numbered 20 ∷ []) (m.core_fails e.function_clause_name 20 21) ((λ h. h), tt) refl always no_clause
      (picks_clause table e.here (trees (e.var e.x_name ∷ [])) (b.branch (e.var e.x_name) b.tagged_clauses ∷ e.var e.y_name ∷ []) 1 [] (plain.pats (m.pat 1 ∷ [])) [] 2 inside [] m.always b.tagged_body no_clauses []
      (one_variable table e.x_name 1 [] refl tt) always body (picks_none table [] []));
}

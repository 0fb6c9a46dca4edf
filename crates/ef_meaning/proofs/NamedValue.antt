-- A function with a match: f(X) -> Y = g:h(X), {Y, X}. By the lemmas of the lowering.
use Rattle.std.proofs.Common.{◌≡◌, ◌+◌, ℕ, codes, List, [], ◌∷◌, ◌++◌, Option, Some, None, true, refl, sym, subst, arith}
use Rattle.ef_base.specs.declared.name.Name.{Name}
use Rattle.ef_base.specs.Texts.{Texts, IsNameOf}
use Rattle.ef_core.specs.declared.env.Bind.{Bind}
use Rattle.ef_core.specs.declared.literal.CoreVar.TheVariants.{Numbered}
use Rattle.ef_core.specs.Env.{bind, held}
use Rattle.ef_core.specs.Tree.{PatTrees, pat_var, no_pats, more_pats}
use Rattle.ef_forms.specs.Tree as t
use Rattle.ef_forms.specs.Tree.{no_clauses}
use Rattle.ef_meaning.specs.Value.{Value, with_some}
use Rattle.ef_meaning.specs.Exception.{badmatch}
use Rattle.ef_meaning.specs.Match.{Bindings, match_name, value_of}
use Rattle.ef_meaning.specs.Match as source_match
use Rattle.ef_meaning.specs.Core as core
use Rattle.ef_meaning.specs.Core.{Vars, value_at}
use Rattle.ef_meaning.specs.Lowers.{AreBelow, Agree, Describes, KeepsBody, KeepsDefinition, AppendsAll}
use Rattle.ef_meaning.specs.Patterns.{HaveValues, IsGuard, KeepsPatterns, SameMatch}
use Rattle.ef_meaning.specs.Cases.{FailsFunction, FailsValue}
use Rattle.ef_meaning.specs.Examples as e
use Rattle.ef_meaning.specs.Examples.{table}
use Rattle.ef_meaning.specs.Matching as m
use Rattle.ef_meaning.proofs.Variables.{agree_refl, agree_more}
use Rattle.ef_meaning.proofs.Bodies.{describes_push, below_push, not_bound}
use Rattle.ef_meaning.proofs.Functions.{function_body_keeps, set_more}
use Rattle.ef_meaning.proofs.Fails.{value_here, function_step_fails, badmatch_step_fails}
use Rattle.ef_meaning.proofs.Picks.{picks_none, picks_clause, true_guard}
use Rattle.ef_meaning.proofs.Appends.{var_appends, remote_appends, argument_appends, put_appends, match_appends, tuple_appends, both_append, last_appends, finish_keeps}

-- ---- one variable as a pattern

module _ (now : Texts) (x : Name) (n : ℕ) (bound : List Bind) (free : held bound x ≡ None) (below : AreBelow n bound) where
  abbrev env : List Bind
  env = bound ++ bind x (Numbered n) ∷ []

  abbrev made : PatTrees
  made = more_pats (pat_var (Numbered n)) no_pats

  pub set_last : (bs : List Bind) (v : Value) (c : Vars) → HaveValues bs c → HaveValues (bs ++ bind x (Numbered n) ∷ []) ((Numbered n, v) ∷ c)
  set_last [] v c p = ((v, value_here (Numbered n) v c), tt)
  set_last (b ∷ bs) v c p = (set_more (Numbered n) b.var v c p.0, set_last bs v c p.1)

  agrees : (all : Texts) (vs : List Value) (c d : Vars) → core.match_all all made vs c ≡ Some d → Agree n c d
  agrees all [] c d p = absurd cc
  agrees all (v ∷ []) c d p = let same : (Numbered n, v) ∷ c ≡ d = cc in subst (Agree n c) same (agree_more n n c c v (omega arith) (agree_refl n c))
  agrees all (v ∷ u ∷ vs) c d p = absurd cc

  sets : (all : Texts) (vs : List Value) (c d : Vars) → HaveValues bound c → core.match_all all made vs c ≡ Some d → HaveValues env d
  sets all [] c d h p = absurd cc
  sets all (v ∷ []) c d h p = let same : (Numbered n, v) ∷ c ≡ d = cc in subst (HaveValues env) same (set_last bound v c h)
  sets all (v ∷ u ∷ vs) c d h p = absurd cc

  matches : (all : Texts) (vs : List Value) (b : Bindings) (c : Vars) → Describes bound b c → SameMatch env [] (source_match.match_all all (t.more (e.var x) t.end) vs b) (core.match_all all made vs c)
  matches all [] b c desc = tt
  matches all (v ∷ []) b c desc =
      let new : value_of x b ≡ None = not_bound bound b c x desc free in
      subst (λ o. SameMatch env [] (with_some (match_name x o v b) (λ d. Some d)) (Some ((Numbered n, v) ∷ c))) (sym new) (refl, describes_push n bound b c x v below free desc)
  matches all (v ∷ u ∷ vs) b c desc = no_more (match_name x (value_of x b) v b)
    where
      no_more : (o : Option Bindings) → SameMatch env [] (with_some o (λ (d : Bindings). None)) None
      no_more None = tt
      no_more (Some d) = tt

  pub one_variable : KeepsPatterns now (t.more (e.var x) t.end) n bound made [] (n + 1) (bind x (Numbered n) ∷ [])
  one_variable = record {
    drawn = omega arith;
    below = below_push n bound x below;
    tests_below = tt;
    fits = refl;
    agree = λ all later vs c d p. agrees all vs c d p;
    decided = λ all later vs c d h p. (sets all vs c d h p, true, refl);
    keeps = λ all later vs b c desc. matches all vs b c desc;
  }

-- ---- the example

pub always : IsGuard table [] m.always
always = true_guard table e.true_name (record { within = omega arith; is = refl })

pub is_fail : IsNameOf table e.match_fail_name (codes "match_fail")
is_fail = record { within = omega arith; is = refl }

no_match : FailsValue table (Numbered 5) badmatch (m.core_fails e.badmatch_name 5 6)
no_match = badmatch_step_fails table e.match_fail_name e.badmatch_name (Numbered 5) is_fail (record { within = omega arith; is = refl }) (Numbered 6)

no_clause : FailsFunction table (Numbered 7 ∷ []) (m.core_fails e.function_clause_name 7 8)
no_clause = function_step_fails table e.match_fail_name e.function_clause_name (Numbered 7 ∷ []) is_fail (record { within = omega arith; is = refl }) (Numbered 8)

abbrev pub inside : List Bind
inside = bind e.x_name (Numbered 1) ∷ []

-- g:h(X), in a variable
called : AppendsAll table (e.remote e.g_name e.h_name (e.var e.x_name ∷ []) ∷ []) 2 inside [] 3 inside (e.step 2 (e.core_call e.g_name e.h_name (e.core_var 1 ∷ [])) ∷ []) (e.core_var 2 ∷ [])
called = put_appends (remote_appends e.here e.here e.here e.g_name e.h_name (argument_appends tt (var_appends e.here e.x_name (Numbered 1) (omega arith, tt) refl)))

body : KeepsBody table (m.match (e.var e.y_name) (e.remote e.g_name e.h_name (e.var e.x_name ∷ [])) ∷ m.tuple (e.var e.y_name ∷ e.var e.x_name ∷ []) ∷ []) inside [] (m.named_body)
body = finish_keeps (last_appends
    (argument_appends tt (match_appends e.here m.always m.always (Numbered 5) (m.core_fails e.badmatch_name 5 6) 4 7 called (one_variable table e.y_name 3 inside refl (omega arith, tt)) (refl, tt) always always no_match (omega arith) (omega arith)))
    (tuple_appends e.here (both_append
    (argument_appends tt (var_appends e.here e.y_name (Numbered 4) (omega arith, (omega arith, tt)) refl))
    (argument_appends tt (var_appends e.here e.x_name (Numbered 1) (omega arith, (omega arith, tt)) refl)))))

pub named_definition : KeepsDefinition table (record { place = e.here; name = e.f_name; arity = 1; clauses = m.named_clauses }) (e.core_function e.f_name 1 (Numbered 0 ∷ []) m.named_case)
named_definition = record {
  name = refl;
  arity = refl;
  parameters = refl;
  keeps = function_body_keeps table m.named_clauses (Numbered 0 ∷ []) (m.core_clause (m.pat 1 ∷ []) m.always m.named_body ∷ []) m.always (Numbered 7 ∷ []) (m.core_fails e.function_clause_name 7 8) ((λ h. h), tt) refl always no_clause
      (picks_clause table e.here (t.more (e.var e.x_name) t.end) (m.match (e.var e.y_name) (e.remote e.g_name e.h_name (e.var e.x_name ∷ [])) ∷ m.tuple (e.var e.y_name ∷ e.var e.x_name ∷ []) ∷ []) 1 [] (more_pats (pat_var (Numbered 1)) no_pats) [] 2 inside [] m.always m.named_body no_clauses []
      (one_variable table e.x_name 1 [] refl tt) always body (picks_none table [] []));
}

-- Matches are kept: a step whose variables hold what the pattern binds.
use Rattle.std.proofs.Common.{if◌then◌else◌, ◌≡◌, ◌+◌, ◌≤◌, ℕ, true, false, List, [], ◌∷◌, ◌++◌, length, map, Option, Some, None, refl, sym, ap, ◌∙◌, subst, arith}
use Rattle.std.proofs.lemmas.Bool.{and_from}
use Rattle.ef_base.specs.declared.fault.Place.{Place}
use Rattle.ef_base.specs.Texts.{Texts, Extends}
use Rattle.ef_core.specs.declared.env.Bind.{Bind}
use Rattle.ef_core.specs.declared.literal.CoreVar.{CoreVar}
use Rattle.ef_core.specs.declared.lowered.Test.{Test}
use Rattle.ef_core.specs.Plain as plain
use Rattle.ef_core.specs.Plain.{StepTree, ClauseTree, clauses, steps}
use Rattle.ef_core.specs.Tree as to
use Rattle.ef_core.specs.Tree.{CoreTree, CoreClauses, PatTrees}
use Rattle.ef_forms.specs.Tree.{Tree, tree, matching, end, more}
use Rattle.ef_forms.specs.Plain.{trees}
use Rattle.ef_meaning.specs.Value.{Value, with_some}
use Rattle.ef_meaning.specs.Exception.{Error, badmatch}
use Rattle.ef_meaning.specs.End.{End, Gives, Raises, Wrong, and_then}
use Rattle.ef_meaning.specs.Keeps.{Ahead, Keeps}
use Rattle.ef_meaning.specs.Match.{Bindings}
use Rattle.ef_meaning.specs.Match as source_match
use Rattle.ef_meaning.specs.Source as source
use Rattle.ef_meaning.specs.Source.{Module, Source}
use Rattle.ef_meaning.specs.Core as core
use Rattle.ef_meaning.specs.Core.{CoreModule, Vars, Funs, Code, Target}
use Rattle.ef_meaning.specs.Lowers.{Describes, Agree, Entry, Related, Worlds, After, IsValue, AreValues, AfterAll, KeepsAll, KeepsExpr, valued, params_from, env_from}
use Rattle.ef_meaning.specs.Patterns.{IsGuard, SameMatch, KeepsPatterns}
use Rattle.ef_meaning.specs.Cases.{AreHeld, FailsValue, last_clause, match_case, names_of, together}
use Rattle.ef_meaning.proofs.Ends.{begins_refl, then_ahead, then_then, then_gives}
use Rattle.ef_meaning.proofs.SourceLaws as laws
use Rattle.ef_meaning.proofs.Simulate.{keeps_same, gives_keeps, const_keeps, then_keeps}
use Rattle.ef_meaning.proofs.Variables.{are_below_more, agree_fewer, agree_trans, drawn_later, value_agree, value_eval}
use Rattle.ef_meaning.proofs.Steps.{run_append, steps_steady, eval_steady, pair_steady}
use Rattle.ef_meaning.proofs.Picks.{clause_taken, clause_passed}
use Rattle.ef_meaning.proofs.Fails.{value_here}
use Rattle.ef_meaning.proofs.Functions.{together_eval}
use Rattle.ef_meaning.proofs.Renamed.{renamed_below, bound_from, values_count, held_values, describes_renamed}

-- ---- one argument, as an expression

module _ (now : Texts) (e : Tree) (n0 : ℕ) (env0 : List Bind) (added : List StepTree) (n1 : ℕ) (env1 : List Bind) (x : CoreTree) where
  abbrev first_value : List Value → Bindings → Source → source.Answer
  first_value (v ∷ []) b s = Gives (v, b) s
  first_value _ b s = Wrong

  first_ahead : (vs : List Value) (b : Bindings) (s : Source) → Ahead s.outside.events (first_value vs b s)
  first_ahead [] b s = tt
  first_ahead (v ∷ []) b s = begins_refl s.outside.events
  first_ahead (v ∷ u ∷ vs) b s = tt

  -- an argument is the value
  pub held_keeps : KeepsAll now (e ∷ []) n0 env0 added n1 env1 (x ∷ []) → KeepsExpr now e n0 env0 added n1 env1 x
  held_keeps k = record {
    drawn = k.drawn;
    below = k.below;
    made = k.made;
    bodies = k.bodies;
    keeps = λ b c desc w cw world all inc n calls en fs s t hides same.
        keeps_same (After n0 c env1) (Related cw all en) n _ (and_then (source.eval_all w (trees (e ∷ [])) (source.levels w n) b s) (λ a u. first_value a.0 a.1 u)) _ (λ m. valued cw added x (core.levels cw m) c fs t)
        (sym (then_then (source.eval w e (source.levels w n) b s) _ _ ∙ then_gives (source.eval w e (source.levels w n) b s))) refl
        (then_keeps (AfterAll w.texts n0 c env1 (x ∷ [])) (After n0 c env1) (Related cw all en) n (source.eval_all w (trees (e ∷ [])) (source.levels w n) b s) (λ m. core.eval_steps cw (steps added) (core.levels cw m) c fs t)
        (λ a u. first_value a.0 a.1 u) (λ m d u. and_then (core.eval cw x (core.levels cw m) d fs u) (λ vs y. Gives (vs, d) y))
        (steps_steady cw (steps added) c fs t).extends
        (λ d u. pair_steady (λ vs. (vs, d)) u (λ m. core.eval cw x (core.levels cw m) d fs u) (eval_steady cw x d fs u))
        (λ a u. first_ahead a.0 a.1 u)
        (k.keeps b c desc w cw world all inc n calls en fs s t hides same)
        (λ a d u y held q. given w cw world all en n c fs a.0 a.1 d u y q held.values held.names held.agree));
    argument = λ simple. k;
  }
    where
      given : (w : Module) (cw : CoreModule) → Worlds now w cw → (all : List Entry) (en : List Code) (n : ℕ) (c : Vars) (fs : Funs) (vs : List Value) (b : Bindings) (d : Vars) (u : Source) (y : Target) → Related cw all en u y →
          AreValues w.texts (x ∷ []) vs d → Describes env1 b d → Agree n0 c d →
          Keeps (After n0 c env1) (Related cw all en) n (first_value vs b u) (λ m. and_then (core.eval cw x (core.levels cw m) d fs y) (λ vs y. Gives (vs, d) y))
      given w cw world all en n c fs [] b d u y q are names agree = absurd are
      given w cw world all en n c fs (v ∷ []) b d u y q are names agree =
          let is : IsValue cw.texts x v d = subst (λ ts. IsValue ts x v d) (sym world.texts) are.0 in
          keeps_same (After n0 c env1) (Related cw all en) n _ (Gives (v, b) u) _ (λ m. Gives (v ∷ [], d) y) refl
          (λ i m. and_then (value_eval cw x v (core.levels cw m) d fs y is i) (λ vs z. Gives (vs, d) z))
          (gives_keeps (After n0 c env1) (Related cw all en) n (v, b) (v ∷ [], d) u y (record { value = refl; names = names; agree = agree }) q)
      given w cw world all en n c fs (v ∷ o ∷ vs) b d u y q are names agree = absurd are.1

-- ---- a match

some_same : {A : Type 0} (o : Option A) → with_some o (λ a. Some a) ≡ o
some_same None = refl
some_same (Some a) = refl

module _ (now : Texts) (q : Place) (p e : Tree) (n0 : ℕ) (env0 : List Bind) (added : List StepTree) (n1 : ℕ) (env1 : List Bind) (x : CoreTree) (pats : PatTrees) (tests : List Test) (n2 : ℕ) (binds : List Bind) (guard always : CoreTree) (z : CoreVar) (fails : CoreTree) (n3 n4 : ℕ)
    (k : KeepsAll now (e ∷ []) n0 env0 added n1 env1 (x ∷ [])) (patterns : KeepsPatterns now (more p end) n1 env1 pats tests n2 binds) (are_held : AreHeld (env1 ++ binds) binds) (is : IsGuard now tests guard) (none : IsGuard now [] always) (failing : FailsValue now z badmatch fails)
    (later_step : n2 ≤ n3) (enough : n3 + length (names_of binds) ≤ n4) where
  abbrev match_tree : Tree
  match_tree = tree q (matching p e)

  -- the step
  abbrev match_step : StepTree
  match_step = record { vars = params_from n3 (names_of binds); value = match_case x pats guard binds always z fails }

  abbrev env2 : List Bind
  env2 = env1 ++ env_from n3 (names_of binds)

  abbrev chosen_body : CoreTree
  chosen_body = together (map (λ (b : Bind). to.var b.var) binds)

  abbrev last_clauses : CoreClauses
  last_clauses = clauses (last_clause always (z ∷ []) fails ∷ [])

  -- the source, once the value is there
  abbrev matched_all : Module → List Value → Bindings → Source → End (List Value × Bindings) Source
  matched_all w (v ∷ []) b s = and_then (source.matched (source_match.matches w.texts p v b) v s) (λ a t. Gives (a.0 ∷ [], a.1) t)
  matched_all w _ b s = Wrong

  matched_ahead : (w : Module) (vs : List Value) (b : Bindings) (s : Source) → Ahead s.outside.events (matched_all w vs b s)
  matched_ahead w [] b s = tt
  matched_ahead w (v ∷ []) b s = then_ahead _ (source.matched (source_match.matches w.texts p v b) v s) _ (laws.matched_ahead (source_match.matches w.texts p v b) v s) (λ a t. begins_refl t.outside.events)
  matched_ahead w (v ∷ u ∷ vs) b s = tt

  module _ (w : Module) (cw : CoreModule) (world : Worlds now w cw) (all : List Entry) (en : List Code) (n : ℕ) (c : Vars) (fs : Funs) where
    later : Extends now cw.texts
    later = subst (Extends now) (sym world.texts) world.begins

    abbrev R : (List Value × Bindings) → Vars → Type 0
    R = AfterAll w.texts n0 c env2 (x ∷ [])

    module _ (v : Value) (b : Bindings) (d : Vars) (u : Source) (y : Target) (related : Related cw all en u y) (holds : IsValue w.texts x v d) (names : Describes env1 b d) (agree : Agree n0 c d) where
      abbrev Run : core.Answer → End Vars Target
      Run o = and_then (and_then o (λ vs t. core.given (core.bind (params_from n3 (names_of binds)) vs d) t)) (λ m t. Gives m t)

      -- the step's value, once that of the match is there
      step_run : (m : ℕ) → core.eval_steps cw (steps (match_step ∷ [])) (core.levels cw m) d fs y ≡ Run (core.pick cw (clauses (record { pats = pats; guard = guard; body = chosen_body } ∷ last_clause always (z ∷ []) fails ∷ [])) (v ∷ []) (core.levels cw m) d fs (λ t. t) (λ t. Wrong) y)
      step_run m =
          let both = clauses (record { pats = pats; guard = guard; body = chosen_body } ∷ last_clause always (z ∷ []) fails ∷ []) in
          ap (λ o. Run (and_then o (λ vs t. if core.all_can_match (length vs) both then core.pick cw both vs (core.levels cw m) d fs (λ t. t) (λ t. Wrong) t else Wrong)))
          (value_eval cw x v (core.levels cw m) d fs y (subst (λ ts. IsValue ts x v d) (sym world.texts) holds))
          ∙ ap (λ b. Run (if b then core.pick cw both (v ∷ []) (core.levels cw m) d fs (λ t. t) (λ t. Wrong) y else Wrong)) (and_from (core.can_match 1 pats) true patterns.fits refl)

      fails_last : (m : ℕ) → core.pick cw last_clauses (v ∷ []) (core.levels cw m) d fs (λ t. t) (λ t. Wrong) y ≡ Raises Error (badmatch v) y
      fails_last m =
          clause_taken now [] always none cw later (plain.pats (to.pat_var z ∷ [])) fails to.no_clauses (v ∷ []) (core.levels cw m) d ((z, v) ∷ d) fs (λ t. t) (λ t. Wrong) y true refl refl
          ∙ failing.raises cw later (core.levels cw m) ((z, v) ∷ d) fs y v (value_here z v d)

      failed_keeps : (m : ℕ → core.Answer) → ((i : ℕ) → m i ≡ Raises Error (badmatch v) y) → Keeps R (Related cw all en) n (Raises Error (badmatch v) u) (λ i. Run (m i))
      failed_keeps m same = keeps_same R (Related cw all en) n _ (Raises Error (badmatch v) u) _ (λ i. Raises Error (badmatch v) y) refl (λ j i. Run (same i j))
          (const_keeps R (Related cw all en) n (Raises Error (badmatch v) u) (Raises Error (badmatch v) y) (refl, refl, related))

      chosen_keeps : (o : Option Bindings) (r : Option Vars) → core.match_all cw.texts pats (v ∷ []) d ≡ r → ((m : Vars) → r ≡ Some m → Agree n1 d m) → SameMatch (env1 ++ binds) tests o r →
          Keeps R (Related cw all en) n (and_then (source.matched o v u) (λ a t. Gives (a.0 ∷ [], a.1) t))
          (λ m. Run (core.pick cw (clauses (record { pats = pats; guard = guard; body = chosen_body } ∷ last_clause always (z ∷ []) fails ∷ [])) (v ∷ []) (core.levels cw m) d fs (λ t. t) (λ t. Wrong) y))
      chosen_keeps None None match kept h = failed_keeps _
          (λ m. clause_passed cw pats guard chosen_body last_clauses (v ∷ []) (core.levels cw m) d fs (λ t. t) (λ t. Wrong) y match ∙ fails_last m)
      chosen_keeps None (Some m) match kept h = failed_keeps _
          (λ i. clause_taken now tests guard is cw later pats chosen_body last_clauses (v ∷ []) (core.levels cw i) d m fs (λ t. t) (λ t. Wrong) y false match h ∙ fails_last i)
      chosen_keeps (Some g) None match kept h = absurd h
      chosen_keeps (Some g) (Some m) match kept h =
          let values = held_values cw.texts (env1 ++ binds) binds g m are_held h.1 in
          let count = values_count cw.texts binds values.0 m values.1 in
          let set = bound_from n3 (names_of binds) values.0 d count in
          let le : n1 ≤ n3 = let first = patterns.drawn in omega arith in
          keeps_same R (Related cw all en) n _ (Gives (v ∷ [], g) u) _ (λ i. Gives set.0 y) refl
          (λ j i. (ap Run (clause_taken now tests guard is cw later pats chosen_body last_clauses (v ∷ []) (core.levels cw i) d m fs (λ t. t) (λ t. Wrong) y true match h.0
          ∙ together_eval cw (map (λ (b : Bind). to.var b.var) binds) values.0 (core.levels cw i) m fs y values.1)
          ∙ ap (λ o. and_then (core.given o y) (λ m t. Gives m t)) set.1) j)
          (gives_keeps R (Related cw all en) n (v ∷ [], g) set.0 u y
          (record {
            values = (value_agree w.texts n1 x v d set.0 k.arguments_drawn.0 (agree_fewer n1 n3 d set.0 le set.2) holds, tt);
            names = describes_renamed cw.texts env1 binds n1 n3 values.0 g d m set.0 le k.below (kept m refl) values.1 set.1 h.1;
            agree = agree_trans n0 n3 c d set.0 (let one = k.drawn in omega arith) agree set.2;
          }) related)

    given : (vs : List Value) (b : Bindings) (d : Vars) (u : Source) (y : Target) → Related cw all en u y → AreValues w.texts (x ∷ []) vs d → Describes env1 b d → Agree n0 c d →
        Keeps R (Related cw all en) n (matched_all w vs b u) (λ m. core.eval_steps cw (steps (match_step ∷ [])) (core.levels cw m) d fs y)
    given [] b d u y related are names agree = absurd are
    given (v ∷ []) b d u y related are names agree =
        keeps_same R (Related cw all en) n _ (matched_all w (v ∷ []) b u) _ _ refl
        (λ j m. step_run v b d u y related are.0 names agree m j)
        (chosen_keeps v b d u y related are.0 names agree (source_match.matches w.texts p v b) (core.match_all cw.texts pats (v ∷ []) d) refl
        (λ m match. patterns.agree cw.texts later (v ∷ []) d m match)
        (subst (λ o. SameMatch (env1 ++ binds) tests o (core.match_all cw.texts pats (v ∷ []) d)) (some_same (source_match.matches w.texts p v b))
        (subst (λ ts. SameMatch (env1 ++ binds) tests (source_match.match_all w.texts (more p end) (v ∷ []) b) (core.match_all ts pats (v ∷ []) d)) (sym world.texts) (patterns.keeps w.texts world.begins (v ∷ []) b d names))))
    given (v ∷ o ∷ vs) b d u y related are names agree = absurd are.1

  pub match_keeps : KeepsAll now (match_tree ∷ []) n0 env0 (added ++ match_step ∷ []) n4 env2 (x ∷ [])
  match_keeps = record {
    drawn = let one = k.drawn in let two = patterns.drawn in omega arith;
    below = are_below_more (n3 + length (names_of binds)) n4 env2 enough (renamed_below n1 n3 env1 (names_of binds) (let two = patterns.drawn in omega arith) k.below);
    arguments_drawn = (drawn_later n1 n4 x (let two = patterns.drawn in omega arith) k.arguments_drawn.0, tt);
    made = k.made;
    bodies = k.bodies;
    keeps = λ b c desc w cw world all inc n calls en fs s t hides same.
        let R = AfterAll w.texts n0 c env2 (x ∷ []) in
        keeps_same R (Related cw all en) n _ (and_then (source.eval_all w (trees (e ∷ [])) (source.levels w n) b s) (λ a u. matched_all w a.0 a.1 u)) _
        (λ m. and_then (core.eval_steps cw (steps added) (core.levels cw m) c fs t) (λ d u. core.eval_steps cw (steps (match_step ∷ [])) (core.levels cw m) d fs u))
        (then_then (source.eval w e (source.levels w n) b s) _ _ ∙ sym (then_then (source.eval w e (source.levels w n) b s) _ _))
        (λ i m. run_append cw added (match_step ∷ []) (core.levels cw m) c fs t i)
        (then_keeps (AfterAll w.texts n0 c env1 (x ∷ [])) R (Related cw all en) n (source.eval_all w (trees (e ∷ [])) (source.levels w n) b s) (λ m. core.eval_steps cw (steps added) (core.levels cw m) c fs t)
        (λ a u. matched_all w a.0 a.1 u) (λ m d u. core.eval_steps cw (steps (match_step ∷ [])) (core.levels cw m) d fs u)
        (steps_steady cw (steps added) c fs t).extends
        (λ d u. steps_steady cw (steps (match_step ∷ [])) d fs u)
        (λ a u. matched_ahead w a.0 a.1 u)
        (k.keeps b c desc w cw world all inc n calls en fs s t hides same)
        (λ a d u y held r. given w cw world all en n c fs a.0 a.1 d u y r held.values held.names held.agree));
  }

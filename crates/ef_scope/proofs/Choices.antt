-- Clauses of which one is gone through: what each binds is set aside, and what all bind is bound behind them.
use Rattle.std.proofs.Common.{◌≡◌, ◌<◌, ◌≤◌, ◌+◌, ◌-◌, ℕ, Bool, true, false, List, [], ◌∷◌, ◌++◌, refl, sym, ap, ◌∙◌, subst, length, take, drop, get_or, append_assoc, append-nil, arith, length-drop}
use Rattle.std.specs.Prelude.{◌||◌, ◌&&◌}
use Rattle.std.specs.List.{flat_map}
use Rattle.std.proofs.lemmas.List.{drop_all, take_all}
use Rattle.ef_base.specs.declared.fault.Fault.{Fault}
use Rattle.ef_base.specs.declared.fault.Place.{Place}
use Rattle.ef_base.specs.Faults.{set_of}
use Rattle.ef_base.specs.Texts.{Texts}
use Rattle.ef_forms.specs.declared.expr.Expr.{Expr}
use Rattle.ef_forms.specs.declared.expr.Clause.{Clause, out-Clause}
use Rattle.ef_forms.specs.OfTable.{ClausesOf}
use Rattle.ef_forms.specs.Plain.{plain_all, plain_clauses, plain_guard}
use Rattle.ef_forms.specs.Sure.{all_sure, clauses_sure}
use Rattle.ef_forms.specs.Tree.{Trees, Guards, Clauses, no_clauses, clause}
use Rattle.ef_forms.specs.Ways.{NameSet, no_names, stay, bind, all_names, body_ways, clauses_ways, patterns_faults, guards_faults, body_faults, clauses_faults}
use Rattle.ef_forms.proofs.Bools.{and_true}
use Rattle.ef_forms.proofs.Grows.{all_may, clauses_may, grows_clauses}
use Rattle.ef_scope.specs.declared.marks.Mark.TheVariants.{Unbound, Unsafe, Safe}
use Rattle.ef_scope.specs.declared.state.State.{State}
use Rattle.ef_scope.specs.declared.state.Aside.{Aside}
use Rattle.ef_scope.specs.Marks.{is_at_least, mark_of}
use Rattle.ef_scope.specs.Trail.{Gathers, GoesBack, Keeps, Puts, Since, changed, has}
use Rattle.ef_scope.specs.Walks.{Shows, Adds, Walks}
use Rattle.ef_scope.proofs.Adds.{adds_none, adds_then}
use Rattle.ef_scope.proofs.Beside.{Within, none_within, noted_all, noted_some, noted_within}
use Rattle.ef_scope.proofs.Guards.{stay_then}
use Rattle.ef_scope.proofs.Lists.{next}
use Rattle.ef_scope.proofs.Parts.{Same, back_to, bound, safe, shows_grown, shows_same, since_same, walked_all, walked_some, walks_stay, walks_then}
use Rattle.ef_scope.proofs.Joins.{choice_all, choice_some, first_all, first_some, joined_all, put_some, within_choice}

-- ---- one clause

pub walks_clause : (texts : Texts) (c : Clause) (ps body : List Expr) (a b b' d : State) (x y y' z : List Fault) → ps ≡ (out-Clause c).patterns.items → body ≡ (out-Clause c).body.items
    → Walks (bind (all_names (plain_all ps))) (patterns_faults texts (plain_all ps)) a b x y → Walks stay (guards_faults texts (plain_guard (out-Clause c).guard.items)) b b' y y'
    → Walks (body_ways (plain_all body)) (body_faults texts (plain_all body)) b' d y' z
    → Walks (clauses_ways (plain_clauses (c ∷ []))) (clauses_faults texts (plain_clauses (c ∷ []))) a d x z
walks_clause texts c ps body a b b' d x y y' z at at' p r q =
    let patterns = plain_all (out-Clause c).patterns.items in
    let guard = plain_guard (out-Clause c).guard.items in
    let exprs = plain_all (out-Clause c).body.items in
    let p' : Walks (bind (all_names patterns)) (patterns_faults texts patterns) a b x y = subst (λ l. Walks (bind (all_names (plain_all l))) (patterns_faults texts (plain_all l)) a b x y) at p in
    let q' : Walks (body_ways exprs) (body_faults texts exprs) b' d y' z = subst (λ l. Walks (body_ways (plain_all l)) (body_faults texts (plain_all l)) b' d y' z) at' q in
    let both = walks_then _ _ _ _ a b d x y z p' (stay_then (guards_faults texts guard) (body_ways exprs) (body_faults texts exprs) b b' d y y' z r q') in
    record {
      ways = both.ways;
      faults = λ sets shows.
          let inside = flat_map (bind (all_names patterns)) sets in
          subst (λ l. Adds (patterns_faults texts patterns sets ++ (guards_faults texts guard inside ++ l)) x z) (sym (append-nil (body_faults texts exprs inside))) (both.faults sets shows);
      since = both.since;
    }

pub walks_no_clauses : (texts : Texts) (cs : List Clause) (s : State) (x : List Fault) → length cs < 1 → Walks (clauses_ways (plain_clauses cs)) (clauses_faults texts (plain_clauses cs)) s s x x
walks_no_clauses texts [] s x none = walks_stay (λ sets. []) s x x (λ sets shows. adds_none x)
walks_no_clauses texts (c ∷ cs) s x none = absurd (omega arith)

-- ---- the names of clauses

-- the names that some clause binds, and those that each does
abbrev pub may_of : Clause → ℕ → Bool
may_of c m = all_names (plain_all (out-Clause c).patterns.items) m || all_may (plain_all (out-Clause c).body.items) m

abbrev pub sure_of : Clause → ℕ → Bool
sure_of c m = all_names (plain_all (out-Clause c).patterns.items) m || all_sure (plain_all (out-Clause c).body.items) m

abbrev pub in_each : Clauses → ℕ → Bool
in_each no_clauses m = true
in_each (clause p ps g body cs) m = (all_names ps m || all_sure body m) && in_each cs m

sure_in_each : (p : Place) (ps : Trees) (g : Guards) (body : Trees) (cs : Clauses) (m : ℕ) → clauses_sure (clause p ps g body cs) m ≡ in_each (clause p ps g body cs) m
sure_in_each p ps g body no_clauses m = sym (and_true (all_names ps m || all_sure body m))
sure_in_each p ps g body (clause q qs h d cs) m = ap (λ z. (all_names ps m || all_sure body m) && z) (sure_in_each q qs h d cs m)

sure_of_all : (cs : List Clause) (m : ℕ) → 1 ≤ length cs → clauses_sure (plain_clauses cs) m ≡ in_each (plain_clauses cs) m
sure_of_all [] m some = absurd (omega arith)
sure_of_all (c ∷ cs) m some = sure_in_each (out-Clause c).place (plain_all (out-Clause c).patterns.items) (plain_guard (out-Clause c).guard.items) (plain_all (out-Clause c).body.items) (plain_clauses cs) m

-- ---- the clauses behind the first

pub record ChoicesLeft (texts : Texts) (cs rest : List Clause) (i : ℕ) (origin s : State) (aside : Aside) (old found : List Fault) : Type 0 where
  pub names : ClausesOf texts (plain_clauses (drop i rest))
  pub same : Same s origin
  pub some : (m : ℕ) → ((bound origin m || has aside.some.items m) || clauses_may (plain_clauses (drop i rest)) m) ≡ (bound origin m || clauses_may (plain_clauses cs) m)
  pub all : (m : ℕ) → ((safe origin m || has aside.all.items m) && (safe origin m || in_each (plain_clauses (drop i rest)) m)) ≡ (safe origin m || in_each (plain_clauses cs) m)
  pub within : Within origin aside
  pub faults : (sets : List NameSet) → Shows sets origin → (new : List Fault) → Adds (clauses_faults texts (plain_clauses (drop i rest)) sets) found new → Adds (clauses_faults texts (plain_clauses cs) sets) old new

-- one clause, and those behind it
clause_then : (texts : Texts) (c : Clause) (cs : List Clause) (sets : List NameSet) (x y z : List Fault) → Adds (clauses_faults texts (plain_clauses (c ∷ [])) sets) x y → Adds (clauses_faults texts (plain_clauses cs) sets) y z
    → Adds (clauses_faults texts (plain_clauses (c ∷ cs)) sets) x z
clause_then texts c cs sets x y z one more =
    let patterns = patterns_faults texts (plain_all (out-Clause c).patterns.items) sets in
    let inside = flat_map (bind (all_names (plain_all (out-Clause c).patterns.items))) sets in
    let guard = guards_faults texts (plain_guard (out-Clause c).guard.items) inside in
    let body = body_faults texts (plain_all (out-Clause c).body.items) inside in
    let rest = clauses_faults texts (plain_clauses cs) sets in
    let same : (patterns ++ (guard ++ (body ++ []))) ++ rest ≡ patterns ++ (guard ++ (body ++ rest)) =
    ap (λ l. (patterns ++ (guard ++ l)) ++ rest) (append-nil body) ∙ append_assoc patterns (guard ++ body) rest ∙ ap (λ l. patterns ++ l) (append_assoc guard body rest) in
    subst (λ l. Adds l x z) same (adds_then x y z (patterns ++ (guard ++ (body ++ []))) rest one more)

module _ (texts : Texts) (cs : List Clause) (first : Clause) (rest : List Clause) (origin s s' : State) (start : ℕ) (aside aside' : Aside) (old found : List Fault) where
  pub choices_first : cs ≡ first ∷ rest → ClausesOf texts (plain_clauses cs) → start ≡ length origin.trail.items → aside.some.items ≡ [] → aside.all.items ≡ []
      → Walks (clauses_ways (plain_clauses (first ∷ []))) (clauses_faults texts (plain_clauses (first ∷ []))) origin s old found
      → GoesBack start s s'
      → Gathers start Unsafe s aside.some.items aside'.some.items
      → Gathers start Safe s aside.all.items aside'.all.items
      → ChoicesLeft texts cs rest 0 origin s' aside' old found
  choices_first whole names is no_some no_all walks back some all =
      let grows = grows_clauses (plain_clauses (first ∷ [])) in
      subst (λ l. ChoicesLeft texts l rest 0 origin s' aside' old found) (sym whole) (record {
        names = (subst (λ l. ClausesOf texts (plain_clauses l)) whole names).3;
        same = back_to origin s s' start walks.since is back;
        some = λ m. first_some (bound origin m) (bound s m) (has aside'.some.items m) (may_of first m) (clauses_may (plain_clauses rest) m)
            (noted_some origin s start aside aside' walks.since is some m ∙ ap (λ z. (bound origin m || z) || bound s m) (ap (λ l. has l m) no_some)) (walked_some _ _ _ grows _ origin s _ _ walks m);
        all = λ m. first_all (safe origin m) (safe s m) (has aside'.all.items m) (sure_of first m) (in_each (plain_clauses rest) m)
            (noted_all origin s start aside aside' walks.since is some all m ∙ ap (λ z. (safe origin m || z) || safe s m) (ap (λ l. has l m) no_all)) (walked_all _ _ _ grows _ origin s _ _ walks m);
        within = noted_within origin s start aside aside' walks.since is some all (none_within origin aside no_all);
        faults = λ sets shows new left. clause_then texts first rest sets old found new (walks.faults sets shows) left;
      })

module _ (texts : Texts) (cs rest : List Clause) (i : ℕ) (c : Clause) (origin s t s' : State) (start : ℕ) (aside aside' : Aside) (old found found' : List Fault) where
  pub choices_more : i < length rest → c ≡ get_or rest i c → start ≡ length origin.trail.items → ChoicesLeft texts cs rest i origin s aside old found
      → Walks (clauses_ways (plain_clauses (c ∷ []))) (clauses_faults texts (plain_clauses (c ∷ []))) s t found found'
      → GoesBack start t s'
      → Gathers start Unsafe t aside.some.items aside'.some.items
      → Keeps Safe t aside.all.items aside'.all.items
      → ChoicesLeft texts cs rest (i + 1) origin s' aside' old found'
  choices_more small read is before walks back some all =
      let at = next rest i c small read in
      let left = drop (i + 1) rest in
      let since = since_same s origin t before.same walks.since in
      let grows = grows_clauses (plain_clauses (c ∷ [])) in
      record {
        names = (subst (λ l. ClausesOf texts (plain_clauses l)) at before.names).3;
        same = back_to origin t s' start since is back;
        some = λ m. choice_some (bound origin m) (bound t m) (has aside.some.items m) (has aside'.some.items m) (may_of c m) (clauses_may (plain_clauses left) m) (clauses_may (plain_clauses cs) m)
            (noted_some origin t start aside aside' since is some m)
            (walked_some _ _ _ grows _ s t _ _ walks m ∙ ap (λ k. is_at_least k Unsafe || (may_of c m || false)) (before.same.marks m))
            (ap (λ l. (bound origin m || has aside.some.items m) || clauses_may (plain_clauses l) m) (sym at) ∙ before.some m);
        all = λ m. choice_all (safe origin m) (safe t m) (has aside.all.items m) (has aside'.all.items m) (sure_of c m) (in_each (plain_clauses left) m) (in_each (plain_clauses cs) m)
            (all m)
            (walked_all _ _ _ grows _ s t _ _ walks m ∙ ap (λ k. is_at_least k Safe || sure_of c m) (before.same.marks m))
            (ap (λ l. (safe origin m || has aside.all.items m) && (safe origin m || in_each (plain_clauses l) m)) (sym at) ∙ before.all m);
        within = λ m h. within_choice (bound origin m) (has aside.some.items m) (has aside'.some.items m) (has aside.all.items m) (has aside'.all.items m) (changed (drop start t.trail.items) m && bound t m) (safe t m) (some m) (all m) (before.within m) h;
        faults = λ sets shows new more. before.faults sets shows new (subst (λ l. Adds (clauses_faults texts (plain_clauses l) sets) found new) (sym at)
            (clause_then texts c left sets found found' new (walks.faults sets (shows_same s origin sets before.same shows)) more));
      }

-- the list is its first clause and the rest
pub first_and_rest : (cs : List Clause) (c : Clause) → 1 ≤ length cs → c ≡ get_or cs 0 c → cs ≡ c ∷ take (length cs - 1) (drop 1 cs)
first_and_rest cs c some read = next cs 0 c some read ∙ ap (λ l. c ∷ l) (sym (take_all (length cs - 1) (drop 1 cs) (omega (arith, length-drop 1 cs))))

pub choices_end : (texts : Texts) (cs rest : List Clause) (i : ℕ) (origin s new : State) (aside : Aside) (old found : List Fault) → 1 ≤ length cs → length rest ≤ i
    → ChoicesLeft texts cs rest i origin s aside old found → Puts aside s new → Since s new → Walks (clauses_ways (plain_clauses cs)) (clauses_faults texts (plain_clauses cs)) origin new old found
choices_end texts cs rest i origin s new aside old found given over before puts since =
    let none = drop_all i rest over in
    let clauses = plain_clauses cs in
    record {
      ways = λ sets shows. shows_grown _ _ _ (grows_clauses clauses) sets origin new shows
          (λ m. puts m Unsafe ∙ ap (λ k. (is_at_least k Unsafe || has aside.all.items m) || (has aside.some.items m && true)) (before.same.marks m)
          ∙ put_some (bound origin m) (bound origin m) (has aside.some.items m) (has aside.all.items m) (clauses_may clauses m) (before.within m)
          (ap (λ l. (bound origin m || has aside.some.items m) || clauses_may (plain_clauses l) m) (sym none) ∙ before.some m))
          (λ m. puts m Safe ∙ ap (λ k. (is_at_least k Safe || has aside.all.items m) || (has aside.some.items m && false)) (before.same.marks m)
          ∙ joined_all (safe origin m) (has aside.some.items m) (has aside.all.items m) (in_each clauses m)
          (ap (λ l. (safe origin m || has aside.all.items m) && (safe origin m || in_each (plain_clauses l) m)) (sym none) ∙ before.all m)
          ∙ ap (λ z. safe origin m || z) (sym (sure_of_all cs m given)));
      faults = λ sets shows. before.faults sets shows found (subst (λ l. Adds (clauses_faults texts (plain_clauses l) sets) found found) (sym none) (adds_none found));
      since = since_same s origin new before.same since;
    }

-- ---- the clauses of a function, where no name is bound before

pub from_none : (texts : Texts) (clauses read : List Clause) (old new : State) (found found' : List Fault) → read ≡ clauses → ((m : ℕ) → mark_of old.marks m ≡ Unbound) → found ≡ []
    → Walks (clauses_ways (plain_clauses read)) (clauses_faults texts (plain_clauses read)) old new found found' → found' ≡ set_of (clauses_faults texts (plain_clauses clauses) (no_names ∷ []))
from_none texts clauses read old new found found' same none empty walks =
    let start : Shows (no_names ∷ []) old = record {
      here = refl;
      some = λ m. ap (λ k. is_at_least k Unsafe) (sym (none m));
      all = λ m. ap (λ k. is_at_least k Safe) (sym (none m));
    } in
    walks.faults (no_names ∷ []) start [] empty ∙ ap (λ l. set_of (clauses_faults texts (plain_clauses l) (no_names ∷ []))) same

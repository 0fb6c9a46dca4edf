-- Clauses keep the choice, one after another.
use Rattle.std.proofs.Common.{◌≡◌, ◌≤◌, ◌==◌, ℕ, codes, Bool, true, false, if◌then◌else◌, List, [], ◌∷◌, ◌++◌, length, Option, Some, None, refl, sym, ap, ◌∙◌, subst, append_assoc, append-nil, arith}
use Rattle.std.proofs.lemmas.Bool.{and_from, and_parts}
use Rattle.std.proofs.lemmas.Bool.Decides.{nat_tests}
use Rattle.ef_base.specs.declared.name.Name.{Name}
use Rattle.ef_base.specs.declared.fault.Place.{Place}
use Rattle.ef_base.specs.Texts.{Texts, Extends, IsNameOf}
use Rattle.ef_base.specs.Laws.{named_later}
use Rattle.ef_core.specs.declared.env.Bind.{Bind}
use Rattle.ef_core.specs.declared.lowered.Test.{Test}
use Rattle.ef_core.specs.Plain.{ClauseTree, clauses}
use Rattle.ef_core.specs.Tree as to
use Rattle.ef_core.specs.Tree.{CoreTree, CoreClauses, PatTrees}
use Rattle.ef_forms.specs.Tree.{Tree, Trees, Clauses, no_guard, no_clauses, clause, count}
use Rattle.ef_forms.specs.Plain.{trees}
use Rattle.ef_meaning.specs.Value.{Value, Atom, truth}
use Rattle.ef_meaning.specs.End.{Gives, Wrong}
use Rattle.ef_meaning.specs.Keeps.{Keeps}
use Rattle.ef_meaning.specs.Match.{Bindings}
use Rattle.ef_meaning.specs.Match as source_match
use Rattle.ef_meaning.specs.Source as source
use Rattle.ef_meaning.specs.Source.{Module, Source}
use Rattle.ef_meaning.specs.Core as core
use Rattle.ef_meaning.specs.Core.{CoreModule, Vars, Funs, Code, Target}
use Rattle.ef_meaning.specs.Lowers.{Entry, Includes, HidesNone, Related, CallsKept, Worlds, Exports, KeepsBody}
use Rattle.ef_meaning.specs.Patterns.{IsGuard, SameMatch, KeepsPatterns, KeepsPicks, verdict}
use Rattle.ef_meaning.specs.Cases.{KeepsFront}
use Rattle.ef_meaning.proofs.Simulate.{keeps_same}
use Rattle.ef_meaning.proofs.Parts.{includes_left, includes_right, bodies_both}

-- ---- guards

same_number : (n : ℕ) → (n == n) ≡ true
same_number n = grind (arith, nat_tests)

counts_alike : (m n : ℕ) → (m == n) ≡ true → m ≡ n
counts_alike m n e = grind (arith, nat_tests)

unchanged_same : (s : Target) → core.unchanged s s ≡ true
unchanged_same s = rw (same_number (length s.outside.events), same_number (length s.outside.items), same_number (length s.store.made)) refl

-- a guard that gives a truth value, and changes nothing
guard_chosen : (s : Target) (b : Bool) (body others : Target → core.Answer) → core.guarded s (Gives (truth b ∷ []) s) body others ≡ (if b then body s else others s)
guard_chosen s b body others = ap (λ z. if z then core.decided (truth b ∷ []) (body s) (others s) else Wrong) (unchanged_same s) ∙ by b
  where
    by : (b : Bool) → core.decided (truth b ∷ []) (body s) (others s) ≡ (if b then body s else others s)
    by true = refl
    by false = refl

-- the literal `true` is the guard of no tests
pub true_guard : (now : Texts) (word : Name) → IsNameOf now word (codes "true") → IsGuard now [] (to.lit (to.atom word))
true_guard now word is = record {
  gives = λ w later ls d fs t b p.
      let same : true ≡ b = cc in
      ap (λ z. Gives (Atom z ∷ []) t) (named_later now w.texts word (codes "true") is later).is ∙ ap (λ z. Gives (truth z ∷ []) t) same;
}

-- ---- one clause of Core

module _ (now : Texts) (tests : List Test) (guard : CoreTree) (is : IsGuard now tests guard) (w : CoreModule) (later : Extends now w.texts) where
  -- its patterns match, and the guard decides
  pub clause_taken : (ps : PatTrees) (body : CoreTree) (rest : CoreClauses) (vs : List Value) (ls : core.Levels) (c d : Vars) (fs : Funs) (took : Target → Target) (others : Target → core.Answer) (t : Target) (b : Bool) →
      core.match_all w.texts ps vs c ≡ Some d → verdict tests d ≡ Some b →
      core.pick w (to.clause ps guard body rest) vs ls c fs took others t ≡ (if b then core.eval w body ls d fs (took t) else core.pick w rest vs ls c fs took others t)
  clause_taken ps body rest vs ls c d fs took others t b match said =
      ap (λ o. core.chosen o (λ x. core.guarded t (core.eval w guard ls x fs t) (λ u. core.eval w body ls x fs (took u)) (λ u. core.pick w rest vs ls c fs took others u)) (core.pick w rest vs ls c fs took others t)) match
      ∙ ap (λ e. core.guarded t e (λ u. core.eval w body ls d fs (took u)) (λ u. core.pick w rest vs ls c fs took others u)) (is.gives w later ls d fs t b said)
      ∙ guard_chosen t b (λ u. core.eval w body ls d fs (took u)) (λ u. core.pick w rest vs ls c fs took others u)

-- its patterns do not match
pub clause_passed : (w : CoreModule) (ps : PatTrees) (guard body : CoreTree) (rest : CoreClauses) (vs : List Value) (ls : core.Levels) (c : Vars) (fs : Funs) (took : Target → Target) (others : Target → core.Answer) (t : Target) →
    core.match_all w.texts ps vs c ≡ None → core.pick w (to.clause ps guard body rest) vs ls c fs took others t ≡ core.pick w rest vs ls c fs took others t
clause_passed w ps guard body rest vs ls c fs took others t match =
    ap (λ o. core.chosen o (λ x. core.guarded t (core.eval w guard ls x fs t) (λ u. core.eval w body ls x fs (took u)) (λ u. core.pick w rest vs ls c fs took others u)) (core.pick w rest vs ls c fs took others t)) match

-- clauses before clauses: the later ones are what is done where none of the earlier ones is chosen
pub pick_append : (w : CoreModule) (xs ys : List ClauseTree) (vs : List Value) (ls : core.Levels) (c : Vars) (fs : Funs) (took : Target → Target) (others : Target → core.Answer) (t : Target) →
    core.pick w (clauses (xs ++ ys)) vs ls c fs took others t ≡ core.pick w (clauses xs) vs ls c fs took (λ u. core.pick w (clauses ys) vs ls c fs took others u) t
pick_append w [] ys vs ls c fs took others t = refl
pick_append w (x ∷ xs) ys vs ls c fs took others t =
    λ i. core.chosen (core.match_all w.texts x.pats vs c) (λ d. core.guarded t (core.eval w x.guard ls d fs t) (λ u. core.eval w x.body ls d fs (took u)) (λ u. pick_append w xs ys vs ls c fs took others u i)) (pick_append w xs ys vs ls c fs took others t i)

-- ---- clauses that can match

pub all_fit : (n : ℕ) (xs ys : List ClauseTree) → core.all_can_match n (clauses xs) ≡ true → core.all_can_match n (clauses ys) ≡ true → core.all_can_match n (clauses (xs ++ ys)) ≡ true
all_fit n [] ys p q = q
all_fit n (x ∷ xs) ys p q =
    let parts = and_parts (core.can_match n x.pats) (core.all_can_match n (clauses xs)) p in
    and_from (core.can_match n x.pats) (core.all_can_match n (clauses (xs ++ ys))) parts.0 (all_fit n xs ys parts.1 q)

-- ---- what is kept

pub picks_none : (now : Texts) (env : List Bind) (sure : List Name) → KeepsPicks now no_clauses env sure []
picks_none now env sure = record {
  entries = [];
  bodies = λ w cw world all inc n calls. tt;
  fits = λ n wide. refl;
  keeps = λ vs b c desc w cw world all inc n calls en fs s t hides same took took_core others others_core goes kept. kept s t same;
}

-- what is kept where the clauses that these stand for come first
pub front_nothing : (now : Texts) (cs : Clauses) (env : List Bind) (sure : List Name) → KeepsFront now cs cs env sure []
front_nothing now cs env sure later k = k

pub front_whole : (now : Texts) (cs : Clauses) (env : List Bind) (sure : List Name) (made : List ClauseTree) → KeepsFront now cs no_clauses env sure made → KeepsPicks now cs env sure made
front_whole now cs env sure made front = subst (KeepsPicks now cs env sure) (append-nil made) (front [] (picks_none now env sure))

module _ (now : Texts) (q : Place) (ps : Trees) (es : List Tree) (n0 : ℕ) (env : List Bind) (pats : PatTrees) (tests : List Test) (n1 : ℕ) (binds : List Bind) (sure : List Name) (guard body : CoreTree) (cs : Clauses) (made : List ClauseTree)
    (patterns : KeepsPatterns now ps n0 env pats tests n1 binds) (is : IsGuard now tests guard) (this : KeepsBody now es (env ++ binds) sure body) (rest : KeepsPicks now cs env sure made) where
  abbrev first : ClauseTree
  first = record { pats = pats; guard = guard; body = body }

  module _ (vs : List Value) (c : Vars) (w : Module) (cw : CoreModule) (world : Worlds now w cw) (all : List Entry) (inc : Includes this.made all) (n : ℕ) (calls : (k : ℕ) → k ≤ n → CallsKept w cw all k)
      (en : List Code) (fs : Funs) (s : Source) (t : Target) (hides : HidesNone cw fs) (took : Source → Source) (took_core : Target → Target) (others_core : ℕ → Target → core.Answer) (moved : Related cw all en (took s) (took_core t))
      (after : source.Answer) where
    abbrev Others : ℕ → core.Answer
    Others m = core.pick cw (clauses made) vs (core.levels cw m) c fs took_core (others_core m) t

    later : Extends now cw.texts
    later = subst (Extends now) (sym world.texts) world.begins

    chosen_keeps : (o : Option Bindings) (p : Option Vars) → core.match_all cw.texts pats vs c ≡ p → SameMatch (env ++ binds) tests o p → Keeps (Exports sure) (Related cw all en) n after Others →
        Keeps (Exports sure) (Related cw all en) n (source.chosen o (λ g. source.eval_body w (trees es) (source.levels w n) g (took s)) after) (λ m. core.pick cw (clauses (first ∷ made)) vs (core.levels cw m) c fs took_core (others_core m) t)
    chosen_keeps None None match p k =
        keeps_same (Exports sure) (Related cw all en) n _ after _ Others refl
        (λ i m. clause_passed cw pats guard body (clauses made) vs (core.levels cw m) c fs took_core (others_core m) t match i) k
    chosen_keeps None (Some d) match p k =
        keeps_same (Exports sure) (Related cw all en) n _ after _ Others refl
        (λ i m. clause_taken now tests guard is cw later pats body (clauses made) vs (core.levels cw m) c d fs took_core (others_core m) t false match p i) k
    chosen_keeps (Some g) None match p k = absurd p
    chosen_keeps (Some g) (Some d) match p k =
        keeps_same (Exports sure) (Related cw all en) n _ (source.eval_body w (trees es) (source.levels w n) g (took s)) _ (λ m. core.core cw m body d fs (took_core t)) refl
        (λ i m. clause_taken now tests guard is cw later pats body (clauses made) vs (core.levels cw m) c d fs took_core (others_core m) t true match p.0 i)
        (this.keeps g d p.1 w cw world all inc n calls en fs (took s) (took_core t) hides moved)

  clause_fits : (n : ℕ) → source.are_wide n (clause q ps no_guard (trees es) cs) ≡ true → core.all_can_match n (clauses (first ∷ made)) ≡ true
  clause_fits n wide =
      let parts = and_parts (count ps == n) (source.are_wide n cs) wide in
      let number : count ps ≡ n = counts_alike (count ps) n parts.0 in
      and_from (core.can_match n pats) (core.all_can_match n (clauses made)) (subst (λ m. core.can_match m pats ≡ true) number patterns.fits) (rest.fits n parts.1)

  pub picks_clause : KeepsPicks now (clause q ps no_guard (trees es) cs) env sure (first ∷ made)
  picks_clause = record {
    entries = this.made ++ rest.entries;
    bodies = bodies_both now this.made rest.entries this.bodies rest.bodies;
    fits = clause_fits;
    keeps = λ vs b c desc w cw world all inc n calls en fs s t hides same took took_core others others_core goes kept.
        chosen_keeps vs c w cw world all (includes_left this.made rest.entries all inc) n calls en fs s t hides took took_core others_core (goes s t same)
        (source.pick w cs vs (source.levels w n) b took others s)
        (source_match.match_all w.texts ps vs b) (core.match_all cw.texts pats vs c) refl
        (subst (λ x. SameMatch (env ++ binds) tests (source_match.match_all w.texts ps vs b) (core.match_all x pats vs c)) (sym world.texts) (patterns.keeps w.texts world.begins vs b c desc))
        (rest.keeps vs b c desc w cw world all (includes_right this.made rest.entries all inc) n calls en fs s t hides same took took_core others others_core goes kept);
  }

-- one clause more
pub front_clause : (now : Texts) (whole : Clauses) (q : Place) (ps : Trees) (es : List Tree) (n0 : ℕ) (env : List Bind) (pats : PatTrees) (tests : List Test) (n1 : ℕ) (binds : List Bind) (sure : List Name) (guard body : CoreTree) (cs : Clauses) (made : List ClauseTree) →
    KeepsPatterns now ps n0 env pats tests n1 binds → IsGuard now tests guard → KeepsBody now es (env ++ binds) sure body → KeepsFront now whole (clause q ps no_guard (trees es) cs) env sure made →
    KeepsFront now whole cs env sure (made ++ record { pats = pats; guard = guard; body = body } ∷ [])
front_clause now whole q ps es n0 env pats tests n1 binds sure guard body cs made patterns is this front later k =
    subst (KeepsPicks now whole env sure) (sym (append_assoc made (record { pats = pats; guard = guard; body = body } ∷ []) later))
    (front (record { pats = pats; guard = guard; body = body } ∷ later) (picks_clause now q ps es n0 env pats tests n1 binds sure guard body cs later patterns is this k))

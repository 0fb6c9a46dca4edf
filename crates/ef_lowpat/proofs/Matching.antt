-- Matches that are kept, one after another.
use Rattle.std.proofs.Common.{◌≡◌, ℕ, Bool, true, false, List, ◌++◌, Option, Some, None, refl, sym, ◌∙◌, subst, arith, append_assoc}
use Rattle.ef_base.specs.Texts.{Texts}
use Rattle.ef_core.specs.declared.env.Bind.{Bind}
use Rattle.ef_core.specs.declared.lowered.Test.{Test}
use Rattle.ef_meaning.specs.Value.{with_some}
use Rattle.ef_meaning.specs.Match.{Bindings}
use Rattle.ef_meaning.specs.Core.{Vars}
use Rattle.ef_meaning.specs.Lowers.{Agree, AreBelow, Describes}
use Rattle.ef_meaning.specs.Patterns.{TestsBelow, verdict}
use Rattle.ef_meaning.proofs.Variables.{agree_trans}
use Rattle.ef_lowpat.specs.Matching.{HaveHeld, KeepsMatch, Kind, SameBy}
use Rattle.ef_lowpat.proofs.Verdicts.{below_right, described_held, tests_below_append, tests_below_more, values_agree, values_append, verdict_agree, verdict_both, verdict_false, verdict_true}

-- ---- one match, and then another

module _ (k j : Kind) (env1 env2 : List Bind) (tests others : List Test) (n1 : ℕ) (below : TestsBelow n1 tests) where
  -- the first failed, whatever the other does
  failed : (q : k.of_core) (o : Option j.of_core) → verdict tests (k.vars q) ≡ Some false
      → ((r : j.of_core) → o ≡ Some r → Agree n1 (k.vars q) (j.vars r) × ((b : Bool) × (verdict others (j.vars r) ≡ Some b))) → SameBy j env2 (tests ++ others) None o
  failed q None f later = tt
  failed q (Some r) f later =
      let l = later r refl in verdict_false tests others (j.vars r) l.1.0 (verdict_agree n1 tests (k.vars q) (j.vars r) below l.0 ∙ f) l.1.1

  passed : (q : k.of_core) (o : Option j.of_source) (p : Option j.of_core) → verdict tests (k.vars q) ≡ Some true
      → ((r : j.of_core) → p ≡ Some r → Agree n1 (k.vars q) (j.vars r) × ((b : Bool) × (verdict others (j.vars r) ≡ Some b)))
      → SameBy j env2 others o p → SameBy j env2 (tests ++ others) o p
  passed q None None f later h = tt
  passed q None (Some r) f later h =
      let l = later r refl in verdict_true tests others (j.vars r) false (verdict_agree n1 tests (k.vars q) (j.vars r) below l.0 ∙ f) h
  passed q (Some a) None f later h = h
  passed q (Some a) (Some r) f later h =
      let l = later r refl in (verdict_true tests others (j.vars r) true (verdict_agree n1 tests (k.vars q) (j.vars r) below l.0 ∙ f) h.0, h.1, h.2)

  then_same : (o : Option k.of_source) (p : Option k.of_core) → SameBy k env1 tests o p
      → (f : k.of_source → Option j.of_source) (g : k.of_core → Option j.of_core)
      → ((a : k.of_source) (q : k.of_core) → p ≡ Some q → k.alike a q → Describes env1 (k.bindings a) (k.vars q) → SameBy j env2 others (f a) (g q))
      → ((q : k.of_core) (r : j.of_core) → p ≡ Some q → g q ≡ Some r → Agree n1 (k.vars q) (j.vars r) × ((b : Bool) × (verdict others (j.vars r) ≡ Some b)))
      → SameBy j env2 (tests ++ others) (with_some o f) (with_some p g)
  then_same None None same f g next later = tt
  then_same None (Some q) same f g next later = failed q (g q) same (λ r e. later q r refl e)
  then_same (Some a) None same f g next later = absurd same
  then_same (Some a) (Some q) same f g next later = passed q (f a) (g q) same.0 (λ r e. later q r refl e) (next a q refl same.2 same.1)

-- what a match that went on began with
went_on : {A B : Type 0} (o : Option A) (f : A → Option B) (r : B) → with_some o f ≡ Some r → (a : A) × (o ≡ Some a) × (f a ≡ Some r)
went_on None f r e = absurd cc
went_on (Some a) f r e = (a, refl, e)

module _ (k j : Kind) (A B W : Type 0) (n0 : ℕ) (env : List Bind) (tests : List Test) (n1 : ℕ) (binds : List Bind) (others : List Test) (n2 : ℕ) (more : List Bind)
    (from : Texts → A → Bindings → Option k.of_source) (to : Texts → A → Vars → Option k.of_core)
    (from' : Texts → B → Bindings → Option j.of_source) (to' : Texts → B → Vars → Option j.of_core)
    (first : W → A) (second : W → k.of_source → B) (second_core : W → k.of_core → B)
    (same : (w : W) (a : k.of_source) (q : k.of_core) → k.alike a q → second w a ≡ second_core w q) where
  pub then_keeps : KeepsMatch k A n0 env tests n1 binds from to → KeepsMatch j B n1 (env ++ binds) others n2 more from' to'
      → KeepsMatch j W n0 env (tests ++ others) n2 (binds ++ more)
      (λ all w b. with_some (from all (first w) b) (λ a. from' all (second w a) (k.bindings a)))
      (λ all w c. with_some (to all (first w) c) (λ q. to' all (second_core w q) (k.vars q)))
  then_keeps one two = record {
    drawn = let l = one.drawn in let m = two.drawn in omega arith;
    below = subst (AreBelow n2) (append_assoc env binds more) two.below;
    tests_below = tests_below_append n2 tests others (tests_below_more n1 n2 tests two.drawn one.tests_below) two.tests_below;
    agree = λ all w c r e.
        let q = went_on _ _ r e in
        agree_trans n0 n1 c (k.vars q.0) (j.vars r) one.drawn (one.agree all (first w) c q.0 q.1) (two.agree all (second_core w q.0) (k.vars q.0) r q.2);
    decided = λ all w c r h e.
        let q = went_on _ _ r e in
        let d = one.decided all (first w) c q.0 h q.1 in
        let agree = two.agree all (second_core w q.0) (k.vars q.0) r q.2 in
        let l = two.decided all (second_core w q.0) (k.vars q.0) r d.held q.2 in
        record {
          held = subst (λ e. HaveHeld e (j.vars r)) (append_assoc env binds more) l.held;
          values = values_append binds more (j.vars r) (values_agree n1 binds (k.vars q.0) (j.vars r) (below_right n1 env binds one.below) agree d.values) l.values;
          verdict = (_, verdict_both tests others (j.vars r) d.verdict.0 l.verdict.0 (verdict_agree n1 tests (k.vars q.0) (j.vars r) one.tests_below agree ∙ d.verdict.1) l.verdict.1);
        };
    keeps = λ all w b c desc.
        subst (λ e. SameBy j e (tests ++ others) (with_some (from all (first w) b) (λ a. from' all (second w a) (k.bindings a))) (with_some (to all (first w) c) (λ q. to' all (second_core w q) (k.vars q)))) (append_assoc env binds more)
        (then_same k j (env ++ binds) ((env ++ binds) ++ more) tests others n1 one.tests_below (from all (first w) b) (to all (first w) c) (one.keeps all (first w) b c desc) _ _
        (λ a q e alike d. subst (λ x. SameBy j ((env ++ binds) ++ more) others (from' all (second w a) (k.bindings a)) (to' all x (k.vars q))) (same w a q alike) (two.keeps all (second w a) (k.bindings a) (k.vars q) d))
        (λ q r e f. (
          two.agree all (second_core w q) (k.vars q) r f,
          (two.decided all (second_core w q) (k.vars q) r (one.decided all (first w) c q (described_held env b c desc) e).held f).verdict,
        )));
  }

-- ---- a part of what is matched

module _ (k : Kind) (A W : Type 0) (n0 : ℕ) (env : List Bind) (tests : List Test) (n1 : ℕ) (binds : List Bind)
    (from : Texts → A → Bindings → Option k.of_source) (to : Texts → A → Vars → Option k.of_core) (part : W → Option A) where
  pub part_keeps : KeepsMatch k A n0 env tests n1 binds from to
      → KeepsMatch k W n0 env tests n1 binds (λ all w b. with_some (part w) (λ v. from all v b)) (λ all w c. with_some (part w) (λ v. to all v c))
  part_keeps one = record {
    drawn = one.drawn;
    below = one.below;
    tests_below = one.tests_below;
    agree = λ all w c q e. let v = went_on (part w) _ q e in one.agree all v.0 c q v.2;
    decided = λ all w c q h e. let v = went_on (part w) _ q e in one.decided all v.0 c q h v.2;
    keeps = λ all w b c desc. by all b c desc (part w);
  }
    where
      by : (all : Texts) (b : Bindings) (c : Vars) → Describes env b c → (o : Option A) → SameBy k (env ++ binds) tests (with_some o (λ v. from all v b)) (with_some o (λ v. to all v c))
      by all b c desc None = tt
      by all b c desc (Some v) = one.keeps all v b c desc

-- ---- the same matches, said otherwise

pub same_keeps : (k : Kind) (A : Type 0) (n0 : ℕ) (env : List Bind) (tests : List Test) (n1 : ℕ) (binds : List Bind)
    (from from' : Texts → A → Bindings → Option k.of_source) (to to' : Texts → A → Vars → Option k.of_core)
    → ((all : Texts) (v : A) (b : Bindings) → from' all v b ≡ from all v b) → ((all : Texts) (v : A) (c : Vars) → to' all v c ≡ to all v c)
    → KeepsMatch k A n0 env tests n1 binds from to → KeepsMatch k A n0 env tests n1 binds from' to'
same_keeps k A n0 env tests n1 binds from from' to to' p q one = record {
  drawn = one.drawn;
  below = one.below;
  tests_below = one.tests_below;
  agree = λ all v c r e. one.agree all v c r (sym (q all v c) ∙ e);
  decided = λ all v c r h e. one.decided all v c r h (sym (q all v c) ∙ e);
  keeps = λ all v b c desc.
      subst (λ o. SameBy k (env ++ binds) tests o (to' all v c)) (sym (p all v b)) (subst (SameBy k (env ++ binds) tests (from all v b)) (sym (q all v c)) (one.keeps all v b c desc));
}

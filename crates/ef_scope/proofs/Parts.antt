-- What parts of the walk do, one after another and side by side.
use Rattle.std.proofs.Common.{◌≡◌, ℕ, Bool, true, false, List, [], ◌∷◌, ◌++◌, refl, sym, ap, ◌∙◌, subst, length, take, drop}
use Rattle.std.specs.Prelude.{◌||◌, ◌&&◌, if◌then◌else◌, ◌==◌}
use Rattle.std.specs.List.{flat_map}
use Rattle.std.proofs.lemmas.Grind.{flat_map-append}
use Rattle.std.proofs.Math.Seq.{drop-append_seam, take-append_seam}
use Rattle.ef_base.specs.declared.fault.Fault.{Fault}
use Rattle.ef_forms.specs.Ways.{NameSet, Way, stay, bind, before}
use Rattle.ef_forms.proofs.Bools.{and_true}
use Rattle.ef_forms.proofs.Growth.{Grows, grows_bind, after_given, after_some, after_all}
use Rattle.ef_scope.specs.declared.marks.Mark.{Mark}
use Rattle.ef_scope.specs.declared.marks.Mark.TheVariants.{Unbound, Unsafe, Safe}
use Rattle.ef_scope.specs.declared.state.Marked.{Marked}
use Rattle.ef_scope.specs.declared.state.State.{State}
use Rattle.ef_scope.specs.Marks.{is_at_least, mark_of}
use Rattle.ef_scope.specs.Trail.{GoesBack, Raises, Since, changed, mark_before}
use Rattle.ef_scope.specs.Walks.{Shows, Adds, Walks}
use Rattle.ef_scope.proofs.Adds.{adds_then}
use Rattle.ef_scope.proofs.TrailLaws.{since_none, since_then}

-- the name is bound on some way of those that the state stands for, and on all
abbrev pub bound : State → ℕ → Bool
bound s m = is_at_least (mark_of s.marks m) Unsafe

abbrev pub safe : State → ℕ → Bool
safe s m = is_at_least (mark_of s.marks m) Safe

pub safe_is_bound : (s : State) (m : ℕ) → safe s m ≡ true → bound s m ≡ true
safe_is_bound s m h = by (mark_of s.marks m) h
  where
    by : (k : Mark) → is_at_least k Safe ≡ true → is_at_least k Unsafe ≡ true
    by Safe is = refl
    by Unsafe is = cc
    by Unbound is = cc

-- ---- what a state shows

-- two ways that stand for all: on the one what is bound on all is bound, and on the other what is bound on some
abbrev pub own_sets : State → List NameSet
own_sets s = safe s ∷ bound s ∷ []

pub shows_own : (s : State) → Shows (own_sets s) s
shows_own s = record {
  here = refl;
  some = λ m. some (mark_of s.marks m);
  all = λ m. all (mark_of s.marks m);
}
  where
    some : (k : Mark) → (is_at_least k Safe || (is_at_least k Unsafe || false)) ≡ is_at_least k Unsafe
    some Safe = refl
    some Unsafe = refl
    some Unbound = refl

    all : (k : Mark) → (is_at_least k Safe && (is_at_least k Unsafe && true)) ≡ is_at_least k Safe
    all Safe = refl
    all Unsafe = refl
    all Unbound = refl

module _ (f : Way) (m M : NameSet) (grows : Grows f m M) where
  -- a state that has what the way adds
  pub shows_grown : (sets : List NameSet) (old new : State) → Shows sets old → ((n : ℕ) → bound new n ≡ (bound old n || m n)) → ((n : ℕ) → safe new n ≡ (safe old n || M n)) → Shows (flat_map f sets) new
  shows_grown sets old new shows some all = record {
    here = after_given f m M grows sets shows.here;
    some = λ n. after_some f m M grows sets shows.here (record { index = n }) ∙ ap (λ z. z || m n) (shows.some n) ∙ sym (some n);
    all = λ n. after_all f m M grows sets shows.here (record { index = n }) ∙ ap (λ z. z || M n) (shows.all n) ∙ sym (all n);
  }

  module _ (g : List NameSet → List Fault) (old new : State) (x y : List Fault) (walks : Walks f g old new x y) where
    pub walked_some : (n : ℕ) → bound new n ≡ (bound old n || m n)
    walked_some n =
        let before = shows_own old in
        let after = walks.ways (own_sets old) before in
        sym (after.some n) ∙ after_some f m M grows (own_sets old) refl (record { index = n }) ∙ ap (λ z. z || m n) (before.some n)

    pub walked_all : (n : ℕ) → safe new n ≡ (safe old n || M n)
    walked_all n =
        let before = shows_own old in
        let after = walks.ways (own_sets old) before in
        sym (after.all n) ∙ after_all f m M grows (own_sets old) refl (record { index = n }) ∙ ap (λ z. z || M n) (before.all n)

-- ---- nothing, names that are bound, and one part after another

pub flat_stay : (sets : List NameSet) → flat_map stay sets ≡ sets
flat_stay [] = refl
flat_stay (s ∷ sets) = ap (λ l. s ∷ l) (flat_stay sets)

pub flat_before : (f g : Way) (sets : List NameSet) → flat_map (before f g) sets ≡ flat_map g (flat_map f sets)
flat_before f g [] = refl
flat_before f g (s ∷ sets) = ap (λ l. flat_map g (f s) ++ l) (flat_before f g sets) ∙ sym (flat_map-append g (f s) (flat_map f sets))

pub walks_stay : (g : List NameSet → List Fault) (s : State) (x y : List Fault) → ((sets : List NameSet) → Shows sets s → Adds (g sets) x y) → Walks stay g s s x y
walks_stay g s x y adds = record {
  ways = λ sets shows. subst (λ l. Shows l s) (sym (flat_stay sets)) shows;
  faults = adds;
  since = since_none s;
}

pub walks_bind : (t : NameSet) (g : List NameSet → List Fault) (old new : State) (x y : List Fault) → Raises t Safe old new
    → Since old new → ((sets : List NameSet) → Shows sets old → Adds (g sets) x y) → Walks (bind t) g old new x y
walks_bind t g old new x y marks since adds = record {
  ways = λ sets shows. shows_grown (bind t) t t (grows_bind t) sets old new shows
      (λ m. marks m Unsafe ∙ ap (λ z. bound old m || z) (and_true (t m))) (λ m. marks m Safe ∙ ap (λ z. safe old m || z) (and_true (t m)));
  faults = adds;
  since = since;
}

pub walks_then : (f : Way) (g : List NameSet → List Fault) (f' : Way) (g' : List NameSet → List Fault) (a b c : State) (x y z : List Fault)
    → Walks f g a b x y → Walks f' g' b c y z → Walks (before f f') (λ s. g s ++ g' (flat_map f s)) a c x z
walks_then f g f' g' a b c x y z p q = record {
  ways = λ sets shows. subst (λ l. Shows l c) (sym (flat_before f f' sets)) (q.ways (flat_map f sets) (p.ways sets shows));
  faults = λ sets shows. adds_then x y z (g sets) (g' (flat_map f sets)) (p.faults sets shows) (q.faults (flat_map f sets) (p.ways sets shows));
  since = since_then a b c p.since q.since;
}

-- ---- states that agree

pub record Same (a b : State) : Type 0 where
  pub trail : a.trail.items ≡ b.trail.items
  pub marks : (m : ℕ) → mark_of a.marks m ≡ mark_of b.marks m

pub shows_same : (a b : State) (sets : List NameSet) → Same a b → Shows sets b → Shows sets a
shows_same a b sets same shows = record {
  here = shows.here;
  some = λ m. shows.some m ∙ ap (λ k. is_at_least k Unsafe) (sym (same.marks m));
  all = λ m. shows.all m ∙ ap (λ k. is_at_least k Safe) (sym (same.marks m));
}

pub since_same : (a b c : State) → Same a b → Since a c → Since b c
since_same a b c same since = record {
  changes = since.changes;
  trail = since.trail ∙ ap (λ l. l ++ since.changes) same.trail;
  marks = λ m. since.marks m ∙ same.marks m;
}

changes_are : (origin s : State) (start : ℕ) (since : Since origin s) → start ≡ length origin.trail.items → drop start s.trail.items ≡ since.changes
changes_are origin s start since is = ap (λ n. drop n s.trail.items) is ∙ ap (drop (length origin.trail.items)) since.trail ∙ drop-append_seam origin.trail.items since.changes

-- the changes since a state are taken back
pub back_to : (origin s new : State) (start : ℕ) → Since origin s → start ≡ length origin.trail.items → GoesBack start s new → Same new origin
back_to origin s new start since is back = record {
  trail = back.trail ∙ ap (λ n. take n s.trail.items) is ∙ ap (take (length origin.trail.items)) since.trail ∙ take-append_seam origin.trail.items since.changes;
  marks = λ m. back.marks m ∙ ap (λ l. mark_before l m (mark_of s.marks m)) (changes_are origin s start since is) ∙ since.marks m;
}

unchanged : (changes : List Marked) (m : ℕ) (k : Mark) → changed changes m ≡ false → mark_before changes m k ≡ k
unchanged [] m k h = refl
unchanged (c ∷ changes) m k h = by (c.name == m) (unchanged changes m k) h
  where
    by : (b : Bool) → (changed changes m ≡ false → mark_before changes m k ≡ k) → (b || changed changes m) ≡ false → (if b then c.mark else mark_before changes m k) ≡ k
    by true rest is = cc
    by false rest is = rest is

or_same : (a : Bool) → (a || false) ≡ (a || a)
or_same true = refl
or_same false = refl

-- a name that did not change has the mark that it had
pub noted : (origin s : State) (start : ℕ) (least : Mark) (m : ℕ) → Since origin s → start ≡ length origin.trail.items
    → (is_at_least (mark_of origin.marks m) least || (changed (drop start s.trail.items) m && is_at_least (mark_of s.marks m) least)) ≡ (is_at_least (mark_of origin.marks m) least || is_at_least (mark_of s.marks m) least)
noted origin s start least m since is =
    let before = is_at_least (mark_of origin.marks m) least in
    let now = is_at_least (mark_of s.marks m) least in
    ap (λ l. before || (changed l m && now)) (changes_are origin s start since is) ∙
    elim (changed since.changes m) as (λ b. changed since.changes m ≡ b → (before || (b && now)) ≡ (before || now)) [
      | true ↦ λ _. refl
      | false ↦ λ not_changed. or_same before ∙ ap (λ k. before || is_at_least k least) (sym (since.marks m) ∙ unchanged since.changes m (mark_of s.marks m) not_changed)
    ] refl

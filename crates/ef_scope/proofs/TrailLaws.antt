-- Changes of the state.
use Rattle.std.proofs.Common.{◌≡◌, ℕ, Bool, true, false, List, [], ◌∷◌, ◌++◌, refl, sym, ap, ◌∙◌, arith, append_assoc, append-nil, length, take, drop, filter, ◌≤◌}
use Rattle.std.specs.Prelude.{◌==◌, ◌||◌, ◌&&◌, if◌then◌else◌}
use Rattle.std.proofs.lemmas.Bool.Decides.{nat_tests}
use Rattle.std.proofs.lemmas.List.{drop-append-le, take-append-le, drop_all}
use Rattle.std.proofs.lemmas.List.Folds.{list_any-append}
use Rattle.ef_scope.specs.declared.marks.Mark.{Mark}
use Rattle.ef_scope.specs.declared.state.Marked.{Marked}
use Rattle.ef_scope.specs.declared.state.State.{State}
use Rattle.ef_scope.specs.Marks.{mark_of}
use Rattle.ef_scope.specs.Trail.{Since, changed, has, mark_before}

-- ---- changes one after another

pub mark_before-append : (a b : List Marked) (m : ℕ) (k : Mark) → mark_before (a ++ b) m k ≡ mark_before a m (mark_before b m k)
mark_before-append [] b m k = refl
mark_before-append (c ∷ a) b m k = ap (λ z. if c.name == m then c.mark else z) (mark_before-append a b m k)

pub since_none : (s : State) → Since s s
since_none s = record { changes = []; trail = sym (append-nil s.trail.items); marks = λ m. refl }

pub since_then : (a b c : State) → Since a b → Since b c → Since a c
since_then a b c p q = record {
  changes = p.changes ++ q.changes;
  trail = q.trail ∙ ap (λ l. l ++ q.changes) p.trail ∙ append_assoc a.trail.items p.changes q.changes;
  marks = λ m. mark_before-append p.changes q.changes m (mark_of c.marks m) ∙ ap (λ k. mark_before p.changes m k) (q.marks m) ∙ p.marks m;
}

-- ---- what is left of the trail, and what was taken back of it

pub changed-append : (a b : List Marked) (m : ℕ) → changed (a ++ b) m ≡ (changed a m || changed b m)
changed-append a b m = list_any-append (λ c. c.name == m) a b

-- the last change is taken back
pub back_once : (start : ℕ) (trail : List Marked) (c : Marked) (old new : List (ℕ × Mark)) (m : ℕ) → start ≤ length trail
    → mark_of new m ≡ (if c.name == m then c.mark else mark_of old m)
    → mark_before (drop start trail) m (mark_of new m) ≡ mark_before (drop start (trail ++ c ∷ [])) m (mark_of old m)
back_once start trail c old new m h is =
    ap (λ k. mark_before (drop start trail) m k) is ∙ sym (mark_before-append (drop start trail) (c ∷ []) m (mark_of old m)) ∙ ap (λ l. mark_before l m (mark_of old m)) (sym (drop-append-le start trail (c ∷ []) h))

pub front_stays : (start : ℕ) (trail : List Marked) (c : Marked) → start ≤ length trail → take start (trail ++ c ∷ []) ≡ take start trail
front_stays start trail c h = take-append-le start trail (c ∷ []) h

pub all_back : (start : ℕ) (trail : List Marked) (m : ℕ) (k : Mark) → length trail ≤ start → mark_before (drop start trail) m k ≡ k
all_back start trail m k h = ap (λ l. mark_before l m k) (drop_all start trail h)

-- ---- names that are kept

same_number : (a b : ℕ) → (a == b) ≡ true → a ≡ b
same_number a b h = grind (arith, nat_tests)

pub has_kept : (f : ℕ → Bool) (names : List ℕ) (m : ℕ) → has (filter f names) m ≡ (has names m && f m)
has_kept f [] m = refl
has_kept f (n ∷ names) m =
    elim (f n) as (λ b. f n ≡ b → has (if b then n ∷ filter f names else filter f names) m ≡ (((n == m) || has names m) && f m)) [
      | true ↦ λ kept. ap (λ z. (n == m) || z) (has_kept f names m) ∙ first (n == m) (has names m) (f m) (λ is. ap f (sym (same_number n m is)) ∙ kept)
      | false ↦ λ left. has_kept f names m ∙ other (n == m) (has names m) (f m) (λ is. ap f (sym (same_number n m is)) ∙ left)
    ] refl
  where
    first : (t h k : Bool) → (t ≡ true → k ≡ true) → (t || (h && k)) ≡ ((t || h) && k)
    first true h k is = sym (is refl)
    first false h k is = refl

    other : (t h k : Bool) → (t ≡ true → k ≡ false) → (h && k) ≡ ((t || h) && k)
    other true true k is = refl
    other true false k is = sym (is refl)
    other false h k is = refl

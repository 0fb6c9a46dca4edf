-- Parts that keep the meaning, one after another.
use Rattle.std.proofs.Common.{◌≡◌, ℕ, suc, ◌≤◌, Bool, true, false, if◌then◌else◌, List, refl, sym, ap, subst, max, arith}
use Rattle.ef_meaning.specs.Value.{Value}
use Rattle.ef_meaning.specs.Exception.{Class}
use Rattle.ef_meaning.specs.Outside.{Event, State}
use Rattle.ef_meaning.specs.End.{End, Gives, Raises, Waits, More, Wrong, and_then, and_either}
use Rattle.ef_meaning.specs.Keeps.{Ahead, Extends, SameEnd, Reached, Equals, Keeps}
use Rattle.ef_meaning.proofs.Ends.{begins_refl, extends_ahead, either_ahead, then_is_either, then_gives}

-- a computation of Core at each bound
pub record Steady {B G : Type 0} (xs : List Event) (C : ℕ → End B (State G)) : Type 0 where
  pub ahead : (m : ℕ) → Ahead xs (C m)
  pub extends : (m k : ℕ) → m ≤ k → Extends (C m) (C k)

module _ {A B F G : Type 0} (R : A → B → Type 0) (Q : State F → State G → Type 0) where
  pub same_kept : (e : End A (State F)) (f g : End B (State G)) → SameEnd R Q e f → Extends f g → SameEnd R Q e g
  same_kept (Gives a s) (Gives b t) g p q = subst (λ h. SameEnd R Q (Gives a s) h) (sym q) p
  same_kept (Gives a s) (Raises c v t) g p q = absurd p
  same_kept (Gives a s) (Waits t) g p q = absurd p
  same_kept (Gives a s) (More t) g p q = absurd p
  same_kept (Gives a s) Wrong g p q = absurd p
  same_kept (Raises c v s) (Raises d u t) g p q = subst (λ h. SameEnd R Q (Raises c v s) h) (sym q) p
  same_kept (Raises c v s) (Gives b t) g p q = absurd p
  same_kept (Raises c v s) (Waits t) g p q = absurd p
  same_kept (Raises c v s) (More t) g p q = absurd p
  same_kept (Raises c v s) Wrong g p q = absurd p
  same_kept (Waits s) (Waits t) g p q = subst (λ h. SameEnd R Q (Waits s) h) (sym q) p
  same_kept (Waits s) (Gives b t) g p q = absurd p
  same_kept (Waits s) (Raises c v t) g p q = absurd p
  same_kept (Waits s) (More t) g p q = absurd p
  same_kept (Waits s) Wrong g p q = absurd p
  same_kept (More s) (Gives b t) g p q = absurd p
  same_kept (More s) (Raises c v t) g p q = absurd p
  same_kept (More s) (Waits t) g p q = absurd p
  same_kept (More s) (More t) g p q = absurd p
  same_kept (More s) Wrong g p q = absurd p
  same_kept Wrong f g p q = tt

  -- Core from some bound on is another computation
  later : (e : End A (State F)) (C D : ℕ → End B (State G)) (m1 : ℕ) → ((m : ℕ) → m1 ≤ m → C m ≡ D m) → ((m k : ℕ) → m ≤ k → Extends (D m) (D k)) → Reached R Q e D → Reached R Q e C
  later (More s) C D m1 same up r = (max m1 r.0, subst (λ h. Ahead s.outside.events h) (sym (same (max m1 r.0) (omega arith))) (extends_ahead s.outside.events (D r.0) (D (max m1 r.0)) (up r.0 (max m1 r.0) (omega arith)) r.1))
  later (Gives a s) C D m1 same up r = (max m1 r.0, subst (λ h. SameEnd R Q (Gives a s) h) (sym (same (max m1 r.0) (omega arith))) (same_kept (Gives a s) (D r.0) (D (max m1 r.0)) r.1 (up r.0 (max m1 r.0) (omega arith))))
  later (Raises c v s) C D m1 same up r = (max m1 r.0, subst (λ h. SameEnd R Q (Raises c v s) h) (sym (same (max m1 r.0) (omega arith))) (same_kept (Raises c v s) (D r.0) (D (max m1 r.0)) r.1 (up r.0 (max m1 r.0) (omega arith))))
  later (Waits s) C D m1 same up r = (max m1 r.0, subst (λ h. SameEnd R Q (Waits s) h) (sym (same (max m1 r.0) (omega arith))) (same_kept (Waits s) (D r.0) (D (max m1 r.0)) r.1 (up r.0 (max m1 r.0) (omega arith))))
  later Wrong C D m1 same up r = (0, tt)

  wrong_equals : (f : End B (State G)) → Equals R Q Wrong f
  wrong_equals (Gives b t) = tt
  wrong_equals (Raises c v t) = tt
  wrong_equals (Waits t) = tt
  wrong_equals (More t) = tt
  wrong_equals Wrong = tt

  pub wrong_keeps : (n : ℕ) (C : ℕ → End B (State G)) → Keeps R Q n Wrong C
  wrong_keeps n C = record { reached = (0, tt); equal = wrong_equals (C n) }

  -- nothing is asked where the test fails
  pub when_keeps : (n : ℕ) (t : Bool) (e : End A (State F)) (C : ℕ → End B (State G)) → (t ≡ true → Keeps R Q n e C) → Keeps R Q n (if t then e else Wrong) C
  when_keeps n true e C k = k refl
  when_keeps n false e C k = wrong_keeps n C

  const_reached : (e : End A (State F)) (f : End B (State G)) → SameEnd R Q e f → Reached R Q e (λ m. f)
  const_reached (Gives a s) f p = (0, p)
  const_reached (Raises c v s) f p = (0, p)
  const_reached (Waits s) f p = (0, p)
  const_reached Wrong f p = (0, p)
  const_reached (More s) (Gives b t) p = absurd p
  const_reached (More s) (Raises c v t) p = absurd p
  const_reached (More s) (Waits t) p = absurd p
  const_reached (More s) (More t) p = absurd p
  const_reached (More s) Wrong p = absurd p

  const_equals : (e : End A (State F)) (f : End B (State G)) → SameEnd R Q e f → Equals R Q e f
  const_equals e (Gives b t) p = p
  const_equals e (Raises c v t) p = p
  const_equals e (Waits t) p = p
  const_equals e Wrong p = p
  const_equals Wrong (More t) p = tt
  const_equals (Gives b s) (More t) p = absurd p
  const_equals (Raises c v s) (More t) p = absurd p
  const_equals (Waits s) (More t) p = absurd p
  const_equals (More s) (More t) p = absurd p

  -- two ends that do not hang on a bound
  pub const_keeps : (n : ℕ) (e : End A (State F)) (f : End B (State G)) → SameEnd R Q e f → Keeps R Q n e (λ m. f)
  const_keeps n e f p = record { reached = const_reached e f p; equal = const_equals e f p }

  pub gives_keeps : (n : ℕ) (a : A) (b : B) (s : State F) (t : State G) → R a b → Q s t → Keeps R Q n (Gives a s) (λ m. Gives b t)
  gives_keeps n a b s t r q = record { reached = (0, (r, q)); equal = (r, q) }

  pub keeps_same : (n : ℕ) (e f : End A (State F)) (C D : ℕ → End B (State G)) → e ≡ f → C ≡ D → Keeps R Q n f D → Keeps R Q n e C
  keeps_same n e f C D p q k = subst (λ M. Keeps R Q n e M) (sym q) (subst (λ x. Keeps R Q n x D) (sym p) k)

  -- one bound more on both sides
  pub one_more : (n : ℕ) (e : End A (State F)) (C D : ℕ → End B (State G)) → ((m : ℕ) → D (suc m) ≡ C m) → Keeps R Q n e C → Keeps R Q (suc n) e D
  one_more n e C D same k = record { reached = by e k.reached; equal = subst (λ f. Equals R Q e f) (sym (same n)) k.equal }
    where
      by : (x : End A (State F)) → Reached R Q x C → Reached R Q x D
      by (Gives a s) r = (suc r.0, subst (λ f. SameEnd R Q (Gives a s) f) (sym (same r.0)) r.1)
      by (Raises c v s) r = (suc r.0, subst (λ f. SameEnd R Q (Raises c v s) f) (sym (same r.0)) r.1)
      by (Waits s) r = (suc r.0, subst (λ f. SameEnd R Q (Waits s) f) (sym (same r.0)) r.1)
      by (More s) r = (suc r.0, subst (λ f. Ahead s.outside.events f) (sym (same r.0)) r.1)
      by Wrong r = (0, tt)

  -- at the bound 0 only what Core does there counts
  pub from_zero : (e : End A (State F)) (C : ℕ → End B (State G)) → Keeps R Q 0 e (λ m. C 0) → Keeps R Q 0 e C
  from_zero e C k = record { reached = by e k.reached; equal = k.equal }
    where
      by : (x : End A (State F)) → Reached R Q x (λ m. C 0) → Reached R Q x C
      by (Gives a s) r = (0, r.1)
      by (Raises c v s) r = (0, r.1)
      by (Waits s) r = (0, r.1)
      by (More s) r = (0, r.1)
      by Wrong r = (0, tt)

  from_gives : (a : A) (s : State F) (f : End B (State G)) → SameEnd R Q (Gives a s) f → (b : B) × (t : State G) × (f ≡ Gives b t) × R a b × Q s t
  from_gives a s (Gives b t) p = (b, t, refl, p.0, p.1)
  from_gives a s (Raises c v t) p = absurd p
  from_gives a s (Waits t) p = absurd p
  from_gives a s (More t) p = absurd p
  from_gives a s Wrong p = absurd p

  from_raises : (c : Class) (v : Value) (s : State F) (f : End B (State G)) → SameEnd R Q (Raises c v s) f → (t : State G) × (f ≡ Raises c v t) × Q s t
  from_raises c v s (Raises d u t) p = (t, (λ i. Raises (sym p.0 i) (sym p.1 i) t), p.2)
  from_raises c v s (Gives b t) p = absurd p
  from_raises c v s (Waits t) p = absurd p
  from_raises c v s (More t) p = absurd p
  from_raises c v s Wrong p = absurd p

-- ---- what follows a value or an exception

module _ {A B C D F G : Type 0} (R : A → B → Type 0) (S : C → D → Type 0) (Q : State F → State G → Type 0) where
  waits_either : (s : State F) (f : End B (State G)) (ho : B → State G → End D (State G)) (mo : Class → Value → State G → End D (State G)) → SameEnd R Q (Waits s) f → SameEnd S Q (Waits s) (and_either f ho mo)
  waits_either s (Waits t) ho mo p = p
  waits_either s (Gives b t) ho mo p = absurd p
  waits_either s (Raises c v t) ho mo p = absurd p
  waits_either s (More t) ho mo p = absurd p
  waits_either s Wrong ho mo p = absurd p

  equals_either : (e : End A (State F)) (f : End B (State G)) (go : A → State F → End C (State F)) (bad : Class → Value → State F → End C (State F)) (ho : B → State G → End D (State G)) (mo : Class → Value → State G → End D (State G)) →
      Equals R Q e f → ((a : A) (s : State F) → Ahead s.outside.events (go a s)) → ((c : Class) (v : Value) (s : State F) → Ahead s.outside.events (bad c v s)) →
      ((a : A) (b : B) (s : State F) (t : State G) → R a b → Q s t → Equals S Q (go a s) (ho b t)) → ((c : Class) (v : Value) (s : State F) (t : State G) → Q s t → Equals S Q (bad c v s) (mo c v t)) →
      Equals S Q (and_either e go bad) (and_either f ho mo)
  equals_either e (More t) go bad ho mo p up down k l = either_ahead t.outside.events e go bad p up down
  equals_either (Gives a s) (Gives b t) go bad ho mo p up down k l = k a b s t p.0 p.1
  equals_either (Raises c v s) (Raises d u t) go bad ho mo p up down k l = subst (λ x. Equals S Q (bad c v s) (mo x u t)) p.0 (subst (λ x. Equals S Q (bad c v s) (mo c x t)) p.1 (l c v s t p.2))
  equals_either (Waits s) (Waits t) go bad ho mo p up down k l = p
  equals_either Wrong (Gives b t) go bad ho mo p up down k l = wrong_equals S Q (ho b t)
  equals_either Wrong (Raises d u t) go bad ho mo p up down k l = wrong_equals S Q (mo d u t)
  equals_either Wrong (Waits t) go bad ho mo p up down k l = tt
  equals_either Wrong Wrong go bad ho mo p up down k l = tt
  equals_either (Gives a s) (Raises d u t) go bad ho mo p up down k l = absurd p
  equals_either (Gives a s) (Waits t) go bad ho mo p up down k l = absurd p
  equals_either (Gives a s) Wrong go bad ho mo p up down k l = absurd p
  equals_either (Raises c v s) (Gives b t) go bad ho mo p up down k l = absurd p
  equals_either (Raises c v s) (Waits t) go bad ho mo p up down k l = absurd p
  equals_either (Raises c v s) Wrong go bad ho mo p up down k l = absurd p
  equals_either (Waits s) (Gives b t) go bad ho mo p up down k l = absurd p
  equals_either (Waits s) (Raises d u t) go bad ho mo p up down k l = absurd p
  equals_either (Waits s) Wrong go bad ho mo p up down k l = absurd p
  equals_either (More s) (Gives b t) go bad ho mo p up down k l = absurd p
  equals_either (More s) (Raises d u t) go bad ho mo p up down k l = absurd p
  equals_either (More s) (Waits t) go bad ho mo p up down k l = absurd p
  equals_either (More s) Wrong go bad ho mo p up down k l = absurd p

  reached_either : (n : ℕ) (e : End A (State F)) (M : ℕ → End B (State G)) (go : A → State F → End C (State F)) (bad : Class → Value → State F → End C (State F)) (ho : ℕ → B → State G → End D (State G)) (mo : ℕ → Class → Value → State G → End D (State G)) →
      ((m k : ℕ) → m ≤ k → Extends (M m) (M k)) → ((b : B) (t : State G) → Steady t.outside.events (λ m. ho m b t)) → ((c : Class) (v : Value) (t : State G) → Steady t.outside.events (λ m. mo m c v t)) → Reached R Q e M →
      ((a : A) (b : B) (s : State F) (t : State G) → R a b → Q s t → Keeps S Q n (go a s) (λ m. ho m b t)) → ((c : Class) (v : Value) (s : State F) (t : State G) → Q s t → Keeps S Q n (bad c v s) (λ m. mo m c v t)) →
      Reached S Q (and_either e go bad) (λ m. and_either (M m) (ho m) (mo m))
  reached_either n (Gives a s) M go bad ho mo up st sr r k l =
      let i = from_gives R Q a s (M r.0) r.1 in
      let fixed : (m : ℕ) → r.0 ≤ m → M m ≡ Gives i.0 i.1 = λ m le. subst (λ f. Extends f (M m)) i.2 (up r.0 m le) in
      later S Q (go a s) (λ m. and_either (M m) (ho m) (mo m)) (λ m. ho m i.0 i.1) r.0 (λ m le. ap (λ f. and_either f (ho m) (mo m)) (fixed m le)) (st i.0 i.1).extends (k a i.0 s i.1 i.3 i.4).reached
  reached_either n (Raises c v s) M go bad ho mo up st sr r k l =
      let i = from_raises R Q c v s (M r.0) r.1 in
      let fixed : (m : ℕ) → r.0 ≤ m → M m ≡ Raises c v i.0 = λ m le. subst (λ f. Extends f (M m)) i.1 (up r.0 m le) in
      later S Q (bad c v s) (λ m. and_either (M m) (ho m) (mo m)) (λ m. mo m c v i.0) r.0 (λ m le. ap (λ f. and_either f (ho m) (mo m)) (fixed m le)) (sr c v i.0).extends (l c v s i.0 i.2).reached
  reached_either n (Waits s) M go bad ho mo up st sr r k l = (r.0, waits_either s (M r.0) (ho r.0) (mo r.0) r.1)
  reached_either n (More s) M go bad ho mo up st sr r k l = (r.0, either_ahead s.outside.events (M r.0) (ho r.0) (mo r.0) r.1 (λ b t. (st b t).ahead r.0) (λ c v t. (sr c v t).ahead r.0))
  reached_either n Wrong M go bad ho mo up st sr r k l = (0, tt)

  pub either_keeps : (n : ℕ) (e : End A (State F)) (M : ℕ → End B (State G)) (go : A → State F → End C (State F)) (bad : Class → Value → State F → End C (State F)) (ho : ℕ → B → State G → End D (State G)) (mo : ℕ → Class → Value → State G → End D (State G)) →
      ((m k : ℕ) → m ≤ k → Extends (M m) (M k)) → ((b : B) (t : State G) → Steady t.outside.events (λ m. ho m b t)) → ((c : Class) (v : Value) (t : State G) → Steady t.outside.events (λ m. mo m c v t)) →
      ((a : A) (s : State F) → Ahead s.outside.events (go a s)) → ((c : Class) (v : Value) (s : State F) → Ahead s.outside.events (bad c v s)) → Keeps R Q n e M →
      ((a : A) (b : B) (s : State F) (t : State G) → R a b → Q s t → Keeps S Q n (go a s) (λ m. ho m b t)) → ((c : Class) (v : Value) (s : State F) (t : State G) → Q s t → Keeps S Q n (bad c v s) (λ m. mo m c v t)) →
      Keeps S Q n (and_either e go bad) (λ m. and_either (M m) (ho m) (mo m))
  either_keeps n e M go bad ho mo up st sr grow down keep k l = record {
    reached = reached_either n e M go bad ho mo up st sr keep.reached k l;
    equal = equals_either e (M n) go bad (ho n) (mo n) keep.equal grow down (λ a b s t r q. (k a b s t r q).equal) (λ c v s t q. (l c v s t q).equal);
  }

  -- the same, where an exception stays
  pub then_keeps : (n : ℕ) (e : End A (State F)) (M : ℕ → End B (State G)) (go : A → State F → End C (State F)) (ho : ℕ → B → State G → End D (State G)) →
      ((m k : ℕ) → m ≤ k → Extends (M m) (M k)) → ((b : B) (t : State G) → Steady t.outside.events (λ m. ho m b t)) → ((a : A) (s : State F) → Ahead s.outside.events (go a s)) → Keeps R Q n e M →
      ((a : A) (b : B) (s : State F) (t : State G) → R a b → Q s t → Keeps S Q n (go a s) (λ m. ho m b t)) →
      Keeps S Q n (and_then e go) (λ m. and_then (M m) (ho m))
  then_keeps n e M go ho up st grow keep k =
      keeps_same S Q n _ (and_either e go (λ c v s. Raises c v s)) _ (λ m. and_either (M m) (ho m) (λ c v t. Raises c v t)) (then_is_either e go) (λ i m. then_is_either (M m) (ho m) i)
      (either_keeps n e M go (λ c v s. Raises c v s) ho (λ m c v t. Raises c v t) up st
      (λ c v t. record { ahead = λ m. begins_refl t.outside.events; extends = λ i j le. refl }) grow (λ c v s. begins_refl s.outside.events) keep k
      (λ c v s t q. const_keeps S Q n (Raises c v s) (Raises c v t) (refl, refl, q)))

-- what is kept of an answer
pub map_keeps : {A B C F G : Type 0} (R : A → B → Type 0) (S : C → B → Type 0) (Q : State F → State G → Type 0) (n : ℕ) (e : End A (State F)) (M : ℕ → End B (State G)) (h : A → C) →
    ((m k : ℕ) → m ≤ k → Extends (M m) (M k)) → ((a : A) (b : B) → R a b → S (h a) b) → Keeps R Q n e M → Keeps S Q n (and_then e (λ a s. Gives (h a) s)) M
map_keeps R S Q n e M h up weak k =
    keeps_same S Q n _ (and_then e (λ a s. Gives (h a) s)) M (λ m. and_then (M m) (λ b t. Gives b t)) refl (λ i m. sym (then_gives (M m)) i)
    (then_keeps R S Q n e M (λ a s. Gives (h a) s) (λ m b t. Gives b t) up (λ b t. record { ahead = λ m. begins_refl t.outside.events; extends = λ m j le. refl }) (λ a s. begins_refl s.outside.events) k
    (λ a b s t r q. gives_keeps S Q n (h a) b s t (weak a b r) q))

-- a weaker relation of answers
pub weaker : {A B F G : Type 0} (R S : A → B → Type 0) (Q : State F → State G → Type 0) (n : ℕ) (e : End A (State F)) (C : ℕ → End B (State G)) → ((a : A) (b : B) → R a b → S a b) → Keeps R Q n e C → Keeps S Q n e C
weaker {A = A} {B = B} {F = F} {G = G} R S Q n e C h k = record { reached = by_reached e k.reached; equal = by_equal e (C n) k.equal }
  where
    same : (x : End A (State F)) (y : End B (State G)) → SameEnd R Q x y → SameEnd S Q x y
    same (Gives a s) (Gives b t) p = (h a b p.0, p.1)
    same (Gives a s) (Raises c v t) p = absurd p
    same (Gives a s) (Waits t) p = absurd p
    same (Gives a s) (More t) p = absurd p
    same (Gives a s) Wrong p = absurd p
    same (Raises c v s) (Raises d u t) p = p
    same (Raises c v s) (Gives b t) p = absurd p
    same (Raises c v s) (Waits t) p = absurd p
    same (Raises c v s) (More t) p = absurd p
    same (Raises c v s) Wrong p = absurd p
    same (Waits s) (Waits t) p = p
    same (Waits s) (Gives b t) p = absurd p
    same (Waits s) (Raises c v t) p = absurd p
    same (Waits s) (More t) p = absurd p
    same (Waits s) Wrong p = absurd p
    same (More s) (Gives b t) p = absurd p
    same (More s) (Raises c v t) p = absurd p
    same (More s) (Waits t) p = absurd p
    same (More s) (More t) p = absurd p
    same (More s) Wrong p = absurd p
    same Wrong y p = tt

    by_reached : (x : End A (State F)) → Reached R Q x C → Reached S Q x C
    by_reached (More s) r = r
    by_reached (Gives a s) r = (r.0, same (Gives a s) (C r.0) r.1)
    by_reached (Raises c v s) r = (r.0, same (Raises c v s) (C r.0) r.1)
    by_reached (Waits s) r = (r.0, same (Waits s) (C r.0) r.1)
    by_reached Wrong r = (0, tt)

    by_equal : (x : End A (State F)) (y : End B (State G)) → Equals R Q x y → Equals S Q x y
    by_equal x (More t) p = p
    by_equal x (Gives b t) p = same x (Gives b t) p
    by_equal x (Raises c v t) p = same x (Raises c v t) p
    by_equal x (Waits t) p = same x (Waits t) p
    by_equal x Wrong p = same x Wrong p

-- When a part of Core keeps the meaning of a part of the source.
use Rattle.std.specs.Prelude.{◌≡◌, ℕ, List, ◌++◌}
use Rattle.ef_meaning.specs.Outside.{Event, State}
use Rattle.ef_meaning.specs.End.{End, Gives, Raises, Waits, More, Wrong}

abbrev pub Begins : {A : Type 0} → List A → List A → Type 0
Begins {A = A} xs ys = (zs : List A) × (xs ++ zs ≡ ys)

-- the events at this end begin with these
abbrev pub Ahead : {A F : Type 0} → List Event → End A (State F) → Type 0
Ahead xs (Gives a s) = Begins xs s.outside.events
Ahead xs (Raises c v s) = Begins xs s.outside.events
Ahead xs (Waits s) = Begins xs s.outside.events
Ahead xs (More s) = Begins xs s.outside.events
Ahead xs Wrong = Unit {0}

-- a larger bound keeps an end, and extends the events of what goes on
abbrev pub Extends : {A F : Type 0} → End A (State F) → End A (State F) → Type 0
Extends (More s) f = Ahead s.outside.events f
Extends (Gives a s) f = f ≡ Gives a s
Extends (Raises c v s) f = f ≡ Raises c v s
Extends (Waits s) f = f ≡ Waits s
Extends Wrong f = f ≡ Wrong

-- the same end: related answers and related states; nothing is asked where the source has no meaning
abbrev pub SameEnd : {A B F G : Type 0} → (A → B → Type 0) → (State F → State G → Type 0) → End A (State F) → End B (State G) → Type 0
SameEnd R Q (Gives a s) (Gives b t) = R a b × Q s t
SameEnd R Q (Raises c v s) (Raises d u t) = (c ≡ d) × (v ≡ u) × Q s t
SameEnd R Q (Waits s) (Waits t) = Q s t
SameEnd R Q Wrong f = Unit {0}
SameEnd R Q _ _ = ⊥

-- Core reaches the end of the source at some bound; the events of a source that goes on are there at some bound
abbrev pub Reached : {A B F G : Type 0} → (A → B → Type 0) → (State F → State G → Type 0) → End A (State F) → (ℕ → End B (State G)) → Type 0
Reached R Q (More s) C = (m : ℕ) × Ahead s.outside.events (C m)
Reached R Q e C = (m : ℕ) × SameEnd R Q e (C m)

-- at the same bound Core has the end of the source, or goes on
abbrev pub Equals : {A B F G : Type 0} → (A → B → Type 0) → (State F → State G → Type 0) → End A (State F) → End B (State G) → Type 0
Equals R Q e (More t) = Ahead t.outside.events e
Equals R Q e f = SameEnd R Q e f

-- `e` is the end of the source at the bound `n`, `C` that of Core at each bound
pub record Keeps {A B F G : Type 0} (R : A → B → Type 0) (Q : State F → State G → Type 0) (n : ℕ) (e : End A (State F)) (C : ℕ → End B (State G)) : Type 0 where
  pub reached : Reached R Q e C
  pub equal : Equals R Q e (C n)

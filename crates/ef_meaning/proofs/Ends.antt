-- Events of ends that follow one another.
use Rattle.std.proofs.Common.{◌≡◌, Bool, true, false, if◌then◌else◌, List, [], ◌∷◌, ◌++◌, refl, sym, ap, ◌∙◌, subst, append_assoc, append-nil}
use Rattle.ef_meaning.specs.Value.{Value}
use Rattle.ef_meaning.specs.Exception.{Class}
use Rattle.ef_meaning.specs.Outside.{Event, State, shows}
use Rattle.ef_meaning.specs.End.{End, Gives, Raises, Waits, More, Wrong, and_then, and_either}
use Rattle.ef_meaning.specs.Keeps.{Begins, Ahead, Extends}

pub begins_refl : (xs : List Event) → Begins xs xs
begins_refl xs = ([], append-nil xs)

pub begins_trans : (xs ys zs : List Event) → Begins xs ys → Begins ys zs → Begins xs zs
begins_trans xs ys zs p q = (p.0 ++ q.0, sym (append_assoc xs p.0 q.0) ∙ ap (λ l. l ++ q.0) p.1 ∙ q.1)

pub ahead_trans : {A F : Type 0} (xs ys : List Event) (e : End A (State F)) → Begins xs ys → Ahead ys e → Ahead xs e
ahead_trans xs ys (Gives a s) p q = begins_trans xs ys _ p q
ahead_trans xs ys (Raises c v s) p q = begins_trans xs ys _ p q
ahead_trans xs ys (Waits s) p q = begins_trans xs ys _ p q
ahead_trans xs ys (More s) p q = begins_trans xs ys _ p q
ahead_trans xs ys Wrong p q = tt

pub shown_ahead : {A F : Type 0} (e : Event) (s : State F) (f : End A (State F)) → Ahead (shows e s).outside.events f → Ahead s.outside.events f
shown_ahead e s f p = ahead_trans s.outside.events (shows e s).outside.events f (e ∷ [], refl) p

pub extends_refl : {A F : Type 0} (e : End A (State F)) → Extends e e
extends_refl (Gives a s) = refl
extends_refl (Raises c v s) = refl
extends_refl (Waits s) = refl
extends_refl (More s) = begins_refl s.outside.events
extends_refl Wrong = refl

pub extends_ahead : {A F : Type 0} (xs : List Event) (e f : End A (State F)) → Extends e f → Ahead xs e → Ahead xs f
extends_ahead xs (Gives a s) f p q = subst (λ g. Ahead xs g) (sym p) q
extends_ahead xs (Raises c v s) f p q = subst (λ g. Ahead xs g) (sym p) q
extends_ahead xs (Waits s) f p q = subst (λ g. Ahead xs g) (sym p) q
extends_ahead xs (More s) f p q = ahead_trans xs s.outside.events f q p
extends_ahead xs Wrong f p q = subst (λ g. Ahead xs g) (sym p) q

-- what a change of a state shows, it shows behind the events that were there
abbrev pub OnlyAdds : {F : Type 0} → (State F → State F) → Type 0
OnlyAdds {F = F} took = (s : State F) → Begins s.outside.events (took s).outside.events

pub if_ahead : {A F : Type 0} (xs : List Event) (t : Bool) (e f : End A (State F)) → Ahead xs e → Ahead xs f → Ahead xs (if t then e else f)
if_ahead xs true e f p q = p
if_ahead xs false e f p q = q

pub if_extends : {A F : Type 0} (t : Bool) (e f g h : End A (State F)) → Extends e g → Extends f h → Extends (if t then e else f) (if t then g else h)
if_extends true e f g h p q = p
if_extends false e f g h p q = q

-- ---- what follows a value or an exception

module _ {A B F : Type 0} where
  pub either_ahead : (xs : List Event) (e : End A (State F)) (go : A → State F → End B (State F)) (bad : Class → Value → State F → End B (State F)) →
      Ahead xs e → ((a : A) (s : State F) → Ahead s.outside.events (go a s)) → ((c : Class) (v : Value) (s : State F) → Ahead s.outside.events (bad c v s)) → Ahead xs (and_either e go bad)
  either_ahead xs (Gives a s) go bad p q r = ahead_trans xs s.outside.events (go a s) p (q a s)
  either_ahead xs (Raises c v s) go bad p q r = ahead_trans xs s.outside.events (bad c v s) p (r c v s)
  either_ahead xs (Waits s) go bad p q r = p
  either_ahead xs (More s) go bad p q r = p
  either_ahead xs Wrong go bad p q r = tt

  pub either_extends : (e f : End A (State F)) (go ho : A → State F → End B (State F)) (bad mo : Class → Value → State F → End B (State F)) →
      Extends e f → ((a : A) (s : State F) → Extends (go a s) (ho a s)) → ((c : Class) (v : Value) (s : State F) → Extends (bad c v s) (mo c v s)) →
      ((a : A) (s : State F) → Ahead s.outside.events (ho a s)) → ((c : Class) (v : Value) (s : State F) → Ahead s.outside.events (mo c v s)) → Extends (and_either e go bad) (and_either f ho mo)
  either_extends (Gives a s) f go ho bad mo p q r h k = subst (λ g. Extends (go a s) (and_either g ho mo)) (sym p) (q a s)
  either_extends (Raises c v s) f go ho bad mo p q r h k = subst (λ g. Extends (bad c v s) (and_either g ho mo)) (sym p) (r c v s)
  either_extends (Waits s) f go ho bad mo p q r h k = ap (λ g. and_either g ho mo) p
  either_extends (More s) f go ho bad mo p q r h k = either_ahead s.outside.events f ho mo p h k
  either_extends Wrong f go ho bad mo p q r h k = ap (λ g. and_either g ho mo) p

  pub then_is_either : (e : End A (State F)) (go : A → State F → End B (State F)) → and_then e go ≡ and_either e go (λ c v s. Raises c v s)
  then_is_either (Gives a s) go = refl
  then_is_either (Raises c v s) go = refl
  then_is_either (Waits s) go = refl
  then_is_either (More s) go = refl
  then_is_either Wrong go = refl

  pub then_ahead : (xs : List Event) (e : End A (State F)) (go : A → State F → End B (State F)) → Ahead xs e → ((a : A) (s : State F) → Ahead s.outside.events (go a s)) → Ahead xs (and_then e go)
  then_ahead xs (Gives a s) go p q = ahead_trans xs s.outside.events (go a s) p (q a s)
  then_ahead xs (Raises c v s) go p q = p
  then_ahead xs (Waits s) go p q = p
  then_ahead xs (More s) go p q = p
  then_ahead xs Wrong go p q = tt

  pub then_extends : (e f : End A (State F)) (go ho : A → State F → End B (State F)) →
      Extends e f → ((a : A) (s : State F) → Extends (go a s) (ho a s)) → ((a : A) (s : State F) → Ahead s.outside.events (ho a s)) → Extends (and_then e go) (and_then f ho)
  then_extends (Gives a s) f go ho p q h = subst (λ g. Extends (go a s) (and_then g ho)) (sym p) (q a s)
  then_extends (Raises c v s) f go ho p q h = ap (λ g. and_then g ho) p
  then_extends (Waits s) f go ho p q h = ap (λ g. and_then g ho) p
  then_extends (More s) f go ho p q h = then_ahead s.outside.events f ho p h
  then_extends Wrong f go ho p q h = ap (λ g. and_then g ho) p

-- ---- equal ends

pub then_same : {A B S : Type 0} (e : End A S) (f g : A → S → End B S) → ((a : A) (s : S) → f a s ≡ g a s) → and_then e f ≡ and_then e g
then_same (Gives a s) f g p = p a s
then_same (Raises c v s) f g p = refl
then_same (Waits s) f g p = refl
then_same (More s) f g p = refl
then_same Wrong f g p = refl

pub then_then : {A B C S : Type 0} (e : End A S) (f : A → S → End B S) (g : B → S → End C S) → and_then (and_then e f) g ≡ and_then e (λ a s. and_then (f a s) g)
then_then (Gives a s) f g = refl
then_then (Raises c v s) f g = refl
then_then (Waits s) f g = refl
then_then (More s) f g = refl
then_then Wrong f g = refl

pub then_gives : {A S : Type 0} (e : End A S) → and_then e (λ a s. Gives a s) ≡ e
then_gives (Gives a s) = refl
then_gives (Raises c v s) = refl
then_gives (Waits s) = refl
then_gives (More s) = refl
then_gives Wrong = refl

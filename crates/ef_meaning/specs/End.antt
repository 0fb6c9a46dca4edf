-- How an evaluation ends.
use Rattle.ef_meaning.specs.Value.{Value}
use Rattle.ef_meaning.specs.Exception.{Class}

-- with an answer of `A` and a state of `S`
pub data End (A S : Type 0) : Type 0 where
  Gives : A → S → End A S
  -- an exception: its class and its reason
  Raises : Class → Value → S → End A S
  -- it waits for the outside, for ever
  Waits : S → End A S
  -- the bound is too small: it goes on
  More : S → End A S
  -- it has no meaning
  Wrong : End A S

abbrev pub and_then : {A B S : Type 0} → End A S → (A → S → End B S) → End B S
and_then (Gives a s) go = go a s
and_then (Raises c v s) go = Raises c v s
and_then (Waits s) go = Waits s
and_then (More s) go = More s
and_then Wrong go = Wrong

-- what follows a value, and what follows an exception
abbrev pub and_either : {A B S : Type 0} → End A S → (A → S → End B S) → (Class → Value → S → End B S) → End B S
and_either (Gives a s) go bad = go a s
and_either (Raises c v s) go bad = bad c v s
and_either (Waits s) go bad = Waits s
and_either (More s) go bad = More s
and_either Wrong go bad = Wrong

-- What is outside of a run: what it hands in, what it is shown, and the state that both meanings share of it.
use Rattle.std.specs.Prelude.{ℕ, List, [], ◌∷◌, ◌++◌}
use Rattle.ef_meaning.specs.Value.{Value}
use Rattle.ef_meaning.specs.Exception.{Class}

-- what the outside hands in, in order
pub data Item : Type 0 where
  -- the value, or the exception, of a call
  Answer : Value → Item
  Raise : Class → Value → Item
  -- a message
  Arrive : Value → Item
  -- the time of a `receive` is over
  TimeUp : Item
  -- a fun is applied to arguments
  CallBack : Value → List Value → Item

-- what a fun gave that the outside applied
pub data Result : Type 0 where
  Returned : Value → Result
  Excepted : Class → Value → Result

-- what a run shows, in order
pub data Event : Type 0 where
  -- a function of another module was called: the module, the name, the arguments
  Called : List ℕ → List ℕ → List Value → Event
  -- a message was sent: to whom, and what
  Sent : Value → Value → Event
  -- a message was taken
  Took : Value → Event
  TimedOut : Event
  GaveBack : Result → Event

pub record Outside : Type 0 where
  -- the number of the own process
  pub own : ℕ
  -- the messages that arrived and were not taken, the oldest first
  pub mailbox : List Value
  -- the items that are left
  pub items : List Item
  -- the events so far
  pub events : List Event

-- a state: what is outside, and the functions that a meaning keeps for itself
pub record State (F : Type 0) : Type 0 where
  pub outside : Outside
  pub store : F

abbrev pub with_items : {F : Type 0} → List Item → State F → State F
with_items is s = record s { outside = record { own = s.outside.own; mailbox = s.outside.mailbox; items = is; events = s.outside.events } }

abbrev pub arrived : {F : Type 0} → Value → State F → State F
arrived v s = record s { outside = record { own = s.outside.own; mailbox = s.outside.mailbox ++ v ∷ []; items = s.outside.items; events = s.outside.events } }

abbrev pub shows : {F : Type 0} → Event → State F → State F
shows e s = record s { outside = record { own = s.outside.own; mailbox = s.outside.mailbox; items = s.outside.items; events = s.outside.events ++ e ∷ [] } }

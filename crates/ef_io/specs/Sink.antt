-- What a write, a create and a whole text do.
use Rattle.std.specs.Prelude.{ℕ, ◌+◌, List, [], ◌++◌, ◌≡◌, ◌≤◌, ◌<◌, length, take, Bool, true, false, Option, None, Some, Result, Ok, Err, IsOk}
use Rattle.ef_io.specs.declared.sink.Failed.{Failed}
use Rattle.ef_io.specs.Count.{Rose}

pub record SinkView : Type 0 where
  pub written : Option (List ℕ)
  pub room : Option ℕ
  pub faults : ℕ
  pub is_open : Bool
  pub created : Option (List ℕ)

-- told bytes with more behind them
abbrev pub with_more : Option (List ℕ) → List ℕ → Option (List ℕ)
with_more None more = None
with_more (Some bytes) more = Some (bytes ++ more)

-- told room, before so many bytes of it were taken
abbrev pub plus : Option ℕ → ℕ → Option ℕ
plus None n = None
plus (Some room) n = Some (room + n)

-- these bytes were appended, and the room fell by their number
pub record IsAppended (old new : SinkView) (bytes : List ℕ) : Type 0 where
  pub written : new.written ≡ with_more old.written bytes
  pub room : plus new.room (length bytes) ≡ old.room

-- it is open as before, and of the same path
pub record Stays (old new : SinkView) : Type 0 where
  pub is_open : new.is_open ≡ old.is_open
  pub created : new.created ≡ old.created

-- a front part is appended, at least one byte where there is one; nothing at a fault
abbrev pub Writes : SinkView → SinkView → List ℕ → Result ℕ Failed → Type 0
Writes old new piece (Ok n) = (n ≤ length piece) × (0 < length piece → 0 < n) × IsAppended old new (take n piece)
Writes old new piece (Err _) = IsAppended old new []

-- all is appended; at a fault, a front part
abbrev pub Puts : SinkView → SinkView → List ℕ → Result Unit Failed → Type 0
Puts old new bytes (Ok _) = IsAppended old new bytes
Puts old new bytes (Err _) = (n : ℕ) × (n ≤ length bytes) × IsAppended old new (take n bytes)

-- the count never falls; it rose at a fault, and else it stays
abbrev pub HasCause : {T : Type 0} → ℕ → ℕ → Result T Failed → Type 0
HasCause old new (Ok _) = new ≡ old
HasCause old new (Err _) = (old ≤ new) × Rose old new

abbrev pub HasWriteCause : {T : Type 0} → SinkView → SinkView → Result T Failed → Type 0
HasWriteCause old new result = HasCause old.faults new.faults result

-- where the room is told and is not less, the answer is Ok
abbrev pub FitsIn : {T : Type 0} → Option ℕ → ℕ → Result T Failed → Type 0
FitsIn None n result = Unit {0}
FitsIn (Some room) n result = n ≤ room → IsOk result

-- it is open, empty and of this path; at a fault, as it was
abbrev pub Creates : SinkView → SinkView → List ℕ → Result Unit Failed → Type 0
Creates old new path (Ok _) = (new.is_open ≡ true) × (new.created ≡ Some path) × (new.written ≡ emptied old.written) where
  emptied : Option (List ℕ) → Option (List ℕ)
  emptied None = None
  emptied (Some _) = Some []
Creates old new path (Err _) = (new.is_open ≡ false) × (new.created ≡ None) × (new.written ≡ old.written)

-- What a printer does. It is given what the printers before it came to, and after a fault of theirs it writes nothing.
use Rattle.std.specs.Prelude.{ℕ, List, ◌≡◌, ◌≤◌, Option, Some, None, Result, Ok, Err, length, take}
use Rattle.ef_core.specs.declared.layout.Last.{Last}
use Rattle.ef_core.specs.Pieces.{Piece, lay, ends}
use Rattle.ef_io.specs.Count.{Rose}
use Rattle.ef_io.specs.declared.sink.Failed.{Failed}
use Rattle.ef_io.specs.Sink.{SinkView, IsAppended, Stays}

-- all of the bytes were written, without a fault
pub record Wrote (old new : SinkView) (bytes : List ℕ) : Type 0 where
  pub appended : IsAppended old new bytes
  pub stays : Stays old new
  pub faults : new.faults ≡ old.faults

abbrev pub IsTooSmall : Option ℕ → ℕ → Type 0
IsTooSmall None n = Unit {0}
IsTooSmall (Some room) n = n ≤ room → ⊥

-- a front part of the bytes was written, and then a fault came, which the room explains where it is told
pub record Stopped (old new : SinkView) (bytes : List ℕ) : Type 0 where
  pub written : ℕ
  pub within : written ≤ length bytes
  pub appended : IsAppended old new (take written bytes)
  pub stays : Stays old new
  pub count : old.faults ≤ new.faults
  pub rose : Rose old.faults new.faults
  pub room : IsTooSmall old.room (length bytes)

-- the bytes are appended to what was printed so far
abbrev pub Appends : SinkView → Result Unit Failed → List ℕ → SinkView → Result Unit Failed → Type 0
Appends old (Ok _) bytes new (Ok _) = Wrote old new bytes
Appends old (Ok _) bytes new (Err _) = Stopped old new bytes
Appends old (Err _) bytes new (Ok _) = ⊥
Appends old (Err _) bytes new (Err _) = new ≡ old

-- the text of these pieces is appended to what was printed so far, and the last of them leaves the next gap
abbrev pub Printed : SinkView → Result Last Failed → List Piece → SinkView → Result Last Failed → Type 0
Printed old (Ok last) ps new (Ok next) = Wrote old new (lay last ps) × (next ≡ ends last ps)
Printed old (Ok last) ps new (Err _) = Stopped old new (lay last ps)
Printed old (Err _) ps new (Ok _) = ⊥
Printed old (Err _) ps new (Err _) = new ≡ old

-- the same as a record, from which a lemma tells what it speaks of
pub record Prints (old : SinkView) (so_far : Result Last Failed) (ps : List Piece) (new : SinkView) (now : Result Last Failed) : Type 0 where
  pub as_told : Printed old so_far ps new now

-- what follows the text of a lexeme
abbrev pub Ended : Result Unit Failed → Last → Result Last Failed → Type 0
Ended (Ok _) next (Ok last) = last ≡ next
Ended (Ok _) next (Err _) = ⊥
Ended (Err _) next (Ok _) = ⊥
Ended (Err _) next (Err _) = Unit {0}

-- the same, without what the next gap depends on
abbrev pub Finished : Result Last Failed → Result Unit Failed → Type 0
Finished (Ok _) (Ok _) = Unit {0}
Finished (Ok _) (Err _) = ⊥
Finished (Err _) (Ok _) = ⊥
Finished (Err _) (Err _) = Unit {0}

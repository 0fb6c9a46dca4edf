-- What an output in memory shows, and what its creation does.
use Rattle.std.specs.Prelude.{ℕ, ◌<◌, ◌≤◌, List, ◌≡◌, ◌⊎◌, length, Option, None, Some, Bool, true, false, Result, Ok, Err}
use denote.Ref.{Bor}
use Rattle.ef_io.specs.declared.sink.Failed.{Failed}
use Rattle.ef_io.specs.declared.store.Store.{Store}
use Rattle.ef_io.specs.declared.memory_output.MemoryOutput.{MemoryOutput}
use Rattle.ef_io.specs.Sink.{SinkView}
use Rattle.ef_io.specs.Count.{one_more}
use Rattle.ef_io.specs.Calls.{counted, is_failing}

-- the path, while it is open
abbrev pub created_of : Bool → List ℕ → Option (List ℕ)
created_of true path = Some path
created_of false path = None

abbrev pub output_view : MemoryOutput → SinkView
output_view m = record {
  written = Some m.store.bytes.items;
  room = None;
  faults = m.store.faults;
  is_open = m.is_open;
  created = created_of m.is_open m.path.items;
}

pub not_created_while_closed : (m : MemoryOutput) → m.is_open ≡ false → created_of m.is_open m.path.items ≡ None
not_created_while_closed m closed = rw closed

-- the path created and the bytes, where it is open
abbrev pub IsTold : SinkView → Option (Bor (List ℕ) × Bor (List ℕ)) → Type 0
IsTold seen None = seen.is_open ≡ false
IsTold seen (Some told) = (seen.created ≡ Some told.0.now) × (seen.written ≡ Some told.1.now)

-- the call counts; it fails where it is to fail, or the path is longer than the room
abbrev pub CreatesWithin : Store → Store → List ℕ → Result Unit Failed → Type 0
CreatesWithin old new path (Ok _) =
    (is_failing (counted old.calls) ≡ false) × (length path ≤ old.room)
    × (new.calls ≡ counted old.calls) × (new.room ≡ old.room)
CreatesWithin old new path (Err _) =
    ((is_failing (counted old.calls) ≡ true) ⊎ (old.room < length path)) × (new.faults ≡ one_more old.faults)
    × (new.calls ≡ counted old.calls) × (new.room ≡ old.room)

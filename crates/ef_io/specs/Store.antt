-- Bytes in memory, with a fixed room for them.
use Rattle.std.specs.Prelude.{ℕ, ◌-◌, ◌<◌, ◌≡◌, ◌⊎◌, List, [], ◌++◌, length, take, min, true, false, Result, Ok, Err, Vec}
use Rattle.std.specs.declared.alloc.Global.{Global}
use Rattle.ef_io.specs.declared.sink.Failed.{Failed}
use Rattle.ef_io.specs.declared.store.Store.{Store}
use Rattle.ef_io.specs.Count.{one_more}
use Rattle.ef_io.specs.Calls.{counted, is_failing}

-- it is empty, has all of its room, and no call of it was made
pub record HoldsNothing (most : ℕ) (failing : Vec ℕ Global) (it : Store) : Type 0 where
  pub bytes : it.bytes.items ≡ []
  pub room : it.room ≡ most
  pub calls : it.calls ≡ record { failing = failing; made = 0 }
  pub faults : it.faults ≡ 0

-- the room that is left
abbrev pub room_left : Store → ℕ
room_left it = it.room - length it.bytes.items

-- a front part of the piece, as far as there is room
abbrev pub fitting : Store → List ℕ → ℕ
fitting it piece = min (length piece) (room_left it)

-- it takes what fits, at least one byte where there is one; a call that is to fail, or that finds no room, takes nothing
abbrev pub TakesWhatFits : Store → Store → List ℕ → Result ℕ Failed → Type 0
TakesWhatFits old new piece (Ok n) =
    (is_failing (counted old.calls) ≡ false) × (n ≡ fitting old piece) × (0 < length piece → 0 < n)
    × (new.bytes.items ≡ old.bytes.items ++ take n piece) × (new.faults ≡ old.faults)
TakesWhatFits old new piece (Err _) =
    ((is_failing (counted old.calls) ≡ true) ⊎ ((0 < length piece) × (room_left old ≡ 0)))
    × (new.bytes.items ≡ old.bytes.items) × (new.faults ≡ one_more old.faults)

-- a write: its call counts
pub record Takes (old new : Store) (piece : List ℕ) (result : Result ℕ Failed) : Type 0 where
  pub takes : TakesWhatFits old new piece result
  pub calls : new.calls ≡ counted old.calls
  pub room : new.room ≡ old.room

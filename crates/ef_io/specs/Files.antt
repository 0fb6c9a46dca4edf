-- What files of the system and streams of the runtime show: no contents.
use Rattle.std.specs.Prelude.{ℕ, List, ◌++◌, Option, None, Some, Bool, true, false, ◌≡◌}
use Rattle.ef_io.specs.Sources.{SourcesView}
use Rattle.ef_io.specs.Sink.{SinkView}

-- bytes, and the same with more behind them
pub record IsGrown (old new : List ℕ) : Type 0 where
  pub more : List ℕ
  pub is : new ≡ old ++ more

abbrev pub sources_view : ℕ → Option (List ℕ) → SourcesView
sources_view faults failed = record { files = None; faults = faults; failed = failed }

abbrev pub open_view : ℕ → SinkView
open_view faults = record { written = None; room = None; faults = faults; is_open = true; created = None }

abbrev pub closed_view : ℕ → SinkView
closed_view faults = record { written = None; room = None; faults = faults; is_open = false; created = None }

-- the path, while it is open
abbrev pub created_of : Bool → List ℕ → Option (List ℕ)
created_of true path = Some path
created_of false path = None

abbrev pub file_view : Bool → List ℕ → ℕ → SinkView
file_view is_open path faults =
    record { written = None; room = None; faults = faults; is_open = is_open; created = created_of is_open path }

pub not_created_while_closed : (is_open : Bool) (path : List ℕ) (faults : ℕ) → is_open ≡ false → created_of is_open path ≡ None
not_created_while_closed is_open path faults closed = rw closed

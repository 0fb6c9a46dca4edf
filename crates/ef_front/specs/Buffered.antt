-- What a sink that gathers shows, and what its flush does.
use Rattle.std.specs.Prelude.{ℕ, ◌≤◌, List, [], ◌∷◌, ◌≡◌, length, take, drop, Option, None, Some, Result, Ok, Err}
use Rattle.ef_io.specs.declared.sink.Failed.{Failed}
use Rattle.ef_io.specs.Sink.{SinkView, with_more}

-- what stays at each write: the reference through which it writes, and the path created behind it
abbrev pub kept : ℕ → Option (List ℕ) → Option (List ℕ)
kept name None = Some (name ∷ [])
kept name (Some path) = Some (name ∷ 0 ∷ path)

-- what is gathered and not handed on counts as written; the sink's count of faults; and no room, since a sink that
-- gathers takes bytes for which the sink behind it may have none
abbrev pub buffered_view : SinkView → ℕ → List ℕ → ℕ → SinkView
buffered_view sink name pending handed = record {
  written = with_more sink.written (drop handed pending);
  room = None;
  faults = sink.faults;
  is_open = sink.is_open;
  created = kept name sink.created;
}

-- all is handed on and nothing is left; at a fault a front part moved, and nothing is lost
abbrev pub HandsOn : SinkView → List ℕ → ℕ → SinkView → List ℕ → ℕ → Result Unit Failed → Type 0
HandsOn old pending handed new pending' handed' (Ok _) =
    (new.written ≡ with_more old.written (drop handed pending)) × (pending' ≡ []) × (handed' ≡ 0)
HandsOn old pending handed new pending' handed' (Err _) =
    with_more new.written (drop handed' pending') ≡ with_more old.written (drop handed pending)

-- told bytes, of which there are none
abbrev pub HoldsNone : Option (List ℕ) → Type 0
HoldsNone None = Unit {0}
HoldsNone (Some bytes) = bytes ≡ []

-- all is written, as far as it is told; at a fault, a front part
abbrev pub PutsTold : SinkView → SinkView → List ℕ → Result Unit Failed → Type 0
PutsTold old new bytes (Ok _) = new.written ≡ with_more old.written bytes
PutsTold old new bytes (Err _) = (n : ℕ) × (n ≤ length bytes) × (new.written ≡ with_more old.written (take n bytes))

-- the same, with bytes that are gathered and not handed on after a fault
abbrev pub PutsThrough : SinkView → SinkView → List ℕ → List ℕ → Result Unit Failed → Type 0
PutsThrough old new rest bytes (Ok _) = new.written ≡ with_more old.written bytes
PutsThrough old new rest bytes (Err _) =
    (n : ℕ) × (n ≤ length bytes) × (with_more new.written rest ≡ with_more old.written (take n bytes))

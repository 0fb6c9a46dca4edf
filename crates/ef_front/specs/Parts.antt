-- What the parts of a run do.
use Rattle.std.specs.Prelude.{ℕ, ◌≤◌, List, [], ◌≡◌, ◌⊎◌, take, Some, Result, Ok, Err}
use Rattle.ef_io.specs.Count.{Rose}
use Rattle.ef_io.specs.Sources.{SourcesView}
use Rattle.ef_io.specs.Sink.{SinkView, IsAppended}
use Rattle.ef_io.specs.declared.sink.Failed.{Failed}
use Rattle.ef_io.specs.declared.status.Status.{Status}
use Rattle.ef_io.specs.declared.status.Status.TheVariants as status
use Rattle.ef_front.specs.declared.compiling.Stop.{Stop}
use Rattle.ef_front.specs.declared.compiling.Stop.TheVariants.{ReadFault, NoMemory}
use Rattle.ef_front.specs.Lines.{usage_line, memory_line, write_line}
use Rattle.ef_front.specs.Created.{told_as, IsUncreated}
use Rattle.ef_front.specs.Runs.{IsTried, EndsWith}

-- the count and the kept path are as they were
pub record HasSameCount (old new : SourcesView) : Type 0 where
  pub faults : new.faults ≡ old.faults
  pub failed : new.failed ≡ old.failed

-- a read fault is told only where a read failed, with its path, which the run tries
abbrev pub HasStop : SourcesView → SourcesView → List ℕ → Stop → Type 0
HasStop old new path (ReadFault tried) =
    (old.faults ≤ new.faults) × Rose old.faults new.faults × (new.failed ≡ Some tried) × IsTried path tried
HasStop old new path NoMemory = old.faults ≤ new.faults

-- the text is told; at a fault, a front part of it and then the line of the write fault
abbrev pub Tells : SinkView → SinkView → List ℕ → Result Unit Failed → Type 0
Tells old new text (Ok _) = IsAppended old new text × (new.faults ≡ old.faults)
Tells old new text (Err _) =
    ((n : ℕ) × EndsWith old new (take n text) write_line) × (old.faults ≤ new.faults) × Rose old.faults new.faults

-- the output is created and holds the text; at a fault, it is not created or holds a front part
abbrev pub Produces : List ℕ → List ℕ → SinkView → SinkView → Result Unit Failed → Type 0
Produces out text old new (Ok _) = (new.created ≡ Some out) × (new.written ≡ told_as old.written text) × (new.faults ≡ old.faults)
Produces out text old new (Err _) =
    (IsUncreated new ⊎ ((new.created ≡ Some out) × ((n : ℕ) × (new.written ≡ told_as old.written (take n text)))))
    × (old.faults ≤ new.faults) × Rose old.faults new.faults

-- the same, and at a fault the line of the write fault
abbrev pub Delivers : List ℕ → List ℕ → SinkView → SinkView → SinkView → SinkView → Status → Type 0
Delivers out text output output' diag diag' status.Written =
    (output'.created ≡ Some out) × (output'.written ≡ told_as output.written text) × (output'.faults ≡ output.faults) × (diag' ≡ diag)
Delivers out text output output' diag diag' status.WriteFault =
    (IsUncreated output' ⊎ ((output'.created ≡ Some out) × ((n : ℕ) × (output'.written ≡ told_as output.written (take n text)))))
    × EndsWith diag diag' [] write_line × (output.faults ≤ output'.faults) × Rose output.faults output'.faults × (diag.faults ≤ diag'.faults)
Delivers out text output output' diag diag' _ = ⊥

-- the usage line is told
abbrev pub Refuses : SinkView → SinkView → Status → Type 0
Refuses old new status.Words = IsAppended old new usage_line × (new.faults ≡ old.faults)
Refuses old new status.WriteFault =
    ((n : ℕ) × EndsWith old new (take n usage_line) write_line) × (old.faults ≤ new.faults) × Rose old.faults new.faults
Refuses old new _ = ⊥

-- these lines are told
abbrev pub Reports : List ℕ → SinkView → SinkView → Status → Type 0
Reports lines old new status.Faults = IsAppended old new lines × (new.faults ≡ old.faults)
Reports lines old new status.WriteFault =
    ((n : ℕ) × EndsWith old new (take n lines) write_line) × (old.faults ≤ new.faults) × Rose old.faults new.faults
Reports lines old new status.NoMemory = EndsWith old new [] memory_line × (old.faults ≤ new.faults)
Reports lines old new _ = ⊥

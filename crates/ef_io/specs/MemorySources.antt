-- What sources in memory show, and which of their calls fail.
use Rattle.std.specs.Prelude.{ℕ, List, [], ◌∷◌, ◌≡◌, Option, None, Some, true, false, if◌then◌else◌, Result, Err}
use Rattle.std.specs.Str.{bytes_eq}
use Rattle.ef_io.specs.Sources.{SourcesView}
use Rattle.ef_io.specs.Count.{one_more}
use Rattle.ef_io.specs.Calls.{counted, is_failing}
use Rattle.ef_io.specs.declared.sources.ReadRefusal.{ReadRefusal}
use Rattle.ef_io.specs.declared.sources.ReadRefusal.TheVariants.{Failed, NoMemory}
use Rattle.ef_io.specs.declared.memory_sources.MemoryFile.{MemoryFile}
use Rattle.ef_io.specs.declared.memory_sources.MemorySources.{MemorySources}

-- the content of the first file of a path
abbrev pub files_of : List MemoryFile → List ℕ → Option (List ℕ)
files_of [] path = None
files_of (file ∷ files) path = if bytes_eq file.path path then Some file.content else files_of files path

abbrev pub sources_view : MemorySources → SourcesView
sources_view m = record { files = Some (files_of m.files.items); faults = m.faults; failed = m.failed }

-- a read fails exactly where its call is to fail, but for want of memory
abbrev pub FailsWhere : MemorySources → MemorySources → Result Unit ReadRefusal → Type 0
FailsWhere old new (Err Failed) = (is_failing (counted old.calls) ≡ true) × (new.faults ≡ one_more old.faults)
FailsWhere old new (Err NoMemory) = Unit {0}
FailsWhere old new _ = is_failing (counted old.calls) ≡ false

-- a read: its call counts
pub record FailsAsListed (old new : MemorySources) (result : Result Unit ReadRefusal) : Type 0 where
  pub fails : FailsWhere old new result
  pub calls : new.calls ≡ counted old.calls

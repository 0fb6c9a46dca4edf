use Rattle.std.proofs.Common.{◌≡◌, drop}
use Rattle.ef_io.specs.MemorySources.{files_of}
use Rattle.ef_io.proofs.memory_sources.find.Given as goal

abbrev pub invariant-loop-file : goal.invariant-loop-file
invariant-loop-file l = files_of l.files l.path ≡ files_of (drop l.file-index l.files) l.path

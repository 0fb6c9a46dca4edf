-- What is made of a source, and of the file at a path.
use Rattle.std.specs.Prelude.{ℕ, List, [], ◌≡◌, ◌≢◌, Option}
use Rattle.ef_io.specs.Sources.{Files}
use Rattle.ef_core.specs.Layout.{text_of}
use Rattle.ef_core.specs.OfTable.{CoreModuleOf}
use Rattle.ef_core.specs.Plain.{plain_module}
use Rattle.ef_front.specs.declared.compiling.Lowered.{Lowered}
use Rattle.ef_front.specs.declared.compiling.Compiled.{Compiled}
use Rattle.ef_front.specs.declared.compiling.Compiled.TheVariants.{Module, Faulty}
use Rattle.ef_front.specs.Printed.{IsPrinted}
use Rattle.ef_front.specs.Source.{HasFaults, IsTextFor}
use Rattle.ef_front.specs.Input.{AreFaults, MayBeWritten}

-- the text of a Core module over its names
abbrev pub text_in : Lowered → List ℕ
text_in l = text_of l.names (plain_module l.«module»)

-- the names of the module are of its table, and nothing is gathered
abbrev pub IsWritable : Lowered → Type 0
IsWritable l = CoreModuleOf l.names (plain_module l.«module») × (l.buffer.items ≡ [])

-- what is made of a source
abbrev pub IsCompiledText : List ℕ → Compiled → Type 0
IsCompiledText source (Module l) = HasFaults source [] × IsTextFor source (text_in l) × IsPrinted (text_in l) × IsWritable l
IsCompiledText source (Faulty faults) = HasFaults source faults × (faults ≢ [])

-- what is made of the file at a path
abbrev pub IsCompiled : Option Files → List ℕ → Compiled → Type 0
IsCompiled files path (Module l) = MayBeWritten files path (text_in l) × IsPrinted (text_in l) × IsWritable l
IsCompiled files path (Faulty faults) = AreFaults files path faults × (faults ≢ [])

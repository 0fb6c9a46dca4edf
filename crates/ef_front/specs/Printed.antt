-- How what is written is laid out.
use Rattle.std.specs.Prelude.{ℕ, List, ◌≡◌, IfSome}
use Rattle.ef_base.specs.Texts.{Texts}
use Rattle.ef_core.specs.Layout.{text_of}
use Rattle.ef_core.specs.Reads.{Reads}
use Rattle.ef_core.specs.Tree.{CoreModuleTree}
use Rattle.ef_io.specs.Sink.{SinkView}
use Rattle.ef_io.specs.declared.status.Status.{Status}
use Rattle.ef_io.specs.declared.status.Status.TheVariants as status

-- the bytes are read as a Core module, and are its text in the one layout
pub record IsPrinted (text : List ℕ) : Type 0 where
  pub names : Texts
  pub core : CoreModuleTree
  pub read : Reads names text core
  pub is : text ≡ text_of names core

-- so is what the output is told to hold where it was written
abbrev pub IsLaidOut : Status → SinkView → Type 0
IsLaidOut status.Written output = IfSome output.written IsPrinted
IsLaidOut _ output = Unit {0}

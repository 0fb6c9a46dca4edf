-- What is written for a module.
use Rattle.std.specs.Prelude.{ℕ, List}
use Rattle.ef_base.specs.Texts.{Texts}
use Rattle.ef_forms.specs.Tree.{ModuleTree}
use Rattle.ef_core.specs.Tree.{CoreModuleTree}
use Rattle.ef_core.specs.Reads.{Reads}
use Rattle.ef_lowmod.specs.Form.{HasLetForm, IsShallowFor}
use Rattle.ef_lowmod.specs.Outline.{Outline}
use Rattle.ef_meaning.specs.Runs.{KeepsMeaning}

-- the bytes are read as a Core module that has the outline of the module, whose bodies are in let form and no deeper than
-- those of the source allow, and that keeps the meaning of the module on every run
pub record IsWritten (all : Texts) (m : ModuleTree) (text : List ℕ) : Type 0 where
  pub core : CoreModuleTree
  pub read : Reads all text core
  pub outline : Outline all m core
  pub let_form : HasLetForm core
  pub shallow : IsShallowFor m core
  pub means : KeepsMeaning all m core

-- A lowered module, whole: its outline, and what each function is lowered to.
use Rattle.ef_base.specs.Texts.{Texts}
use Rattle.ef_core.specs.Conditions.{defined}
use Rattle.ef_core.specs.Tree.{CoreModuleTree}
use Rattle.ef_forms.specs.Built.{functions_in}
use Rattle.ef_forms.specs.Tree.{ModuleTree}
use Rattle.ef_lowmod.specs.Function.{AreLowered}
use Rattle.ef_lowmod.specs.Outline.{Outline}

pub record IsLoweredModule (all : Texts) (m : ModuleTree) (t : CoreModuleTree) : Type 0 where
  pub outline : Outline all m t
  pub functions : AreLowered all (defined all t) (functions_in m.forms) outline.functions

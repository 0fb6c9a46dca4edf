use Rattle.std.proofs.Common.{List, map, take}
use Rattle.ef_base.specs.Texts.{AllDiffer, AllUtf8, Extends}
use Rattle.ef_core.specs.declared.literal.FName.{FName}
use Rattle.ef_core.specs.Plain.{plain_def}
use Rattle.ef_forms.specs.Built.{functions_in}
use Rattle.ef_forms.specs.Plain.{plain_placed}
use Rattle.ef_lower.specs.Scope.{HasFunctions}
use Rattle.ef_lowmod.specs.Function.{AreLowered}
use Rattle.ef_meaning.specs.Lowers.{KeepDefinitions}
use Rattle.ef_lowmod.proofs.module.lower_functions.Given as goal

abbrev pub invariant-loop-placed : goal.invariant-loop-placed
invariant-loop-placed l = record {
  kept : Extends l.fn.names l.names;
  differ : AllDiffer l.fn.names → AllDiffer l.names;
  utf8 : AllUtf8 l.fn.names → AllUtf8 l.names;
  lowered : (fs : List FName) → HasFunctions l.names l.tables.functions.items fs
      → AreLowered l.names fs (functions_in (map plain_placed (take l.placed-index l.forms))) (map plain_def l.defs.items);
  means : KeepDefinitions l.names (functions_in (map plain_placed (take l.placed-index l.forms))) (map plain_def l.defs.items);
}

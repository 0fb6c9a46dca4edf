-- Modules that a text says, where it is deep enough: normal, well-formed, with names of the table, and such that the
-- conditions hold.
use Rattle.std.specs.Prelude.{◌≤◌}
use Rattle.ef_base.specs.Texts.{Texts, AllUtf8}
use Rattle.ef_core.specs.Conditions.{MeetsConditions}
use Rattle.ef_core.specs.Depth.{module_depth}
use Rattle.ef_core.specs.Layout.{text_of}
use Rattle.ef_core.specs.Reads.{greatest_depth, Reads}
use Rattle.ef_core.specs.Everywhere.{Each, Rule, both, HoldsIn}
use Rattle.ef_core.specs.Normal.{normal}
use Rattle.ef_core.specs.OfTable.{of_table, CoreModuleOf}
use Rattle.ef_core.specs.Tree.{CoreModuleTree}
use Rattle.ef_core.specs.WellFormed.{Matches, well_formed}

abbrev pub readable : Texts → Rule
readable names = both (normal names) (both (well_formed names) (of_table names))

pub record IsReadable (names : Texts) (m : CoreModuleTree) : Type 0 where
  pub parts : HoldsIn (readable names) m
  pub names_of : CoreModuleOf names m
  pub parameters : Each (λ d. Matches d.name d.params) m.defs
  pub conditions : MeetsConditions names m

-- the law of what is written: the text of the module is read as it, where a text says it and it is not too deep
abbrev pub IsReadBack : Texts → CoreModuleTree → Type 0
IsReadBack names m = AllUtf8 names → IsReadable names m → module_depth m ≤ greatest_depth → Reads names (text_of names m) m

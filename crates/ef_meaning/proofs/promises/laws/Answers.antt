use Rattle.ef_meaning.proofs.SourceLaws as source
use Rattle.ef_meaning.proofs.CoreLaws as core
use Rattle.ef_meaning.proofs.SameLaws.{value_same, value_itself}
use Rattle.ef_meaning.proofs.OrderLaws.{values_ordered}
use Rattle.ef_meaning.proofs.Meant.{runs_meant}
use Rattle.ef_meaning.proofs.Kept.{module_keeps}
use Rattle.ef_meaning.proofs.promises.laws.Goals as goal

pub returns-clause-values : goal.returns-clause-values
returns-clause-values c = record { same = value_same; itself = value_itself }

pub returns-clause-order : goal.returns-clause-order
returns-clause-order c = values_ordered

pub returns-clause-events : goal.returns-clause-events
returns-clause-events c = record { of_source = source.source_ahead; of_core = core.core_ahead }

pub returns-clause-bounds : goal.returns-clause-bounds
returns-clause-bounds c = record { of_source = source.source_extends; of_core = core.core_extends }

pub returns-clause-meant : goal.returns-clause-meant
returns-clause-meant c = record { each = runs_meant }

pub returns-clause-modules : goal.returns-clause-modules
returns-clause-modules c = record { each = module_keeps }

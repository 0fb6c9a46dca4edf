use Rattle.ef_tables.proofs.Sets.{has_key}
use Rattle.ef_tables.proofs.function_set.FunctionSet.has.Goals as goal

pub returns : goal.returns
returns c = rw (← c.self.view_is) (has_key _ c.self.inside.keys.keys c.contains.result c.contains.ensures)

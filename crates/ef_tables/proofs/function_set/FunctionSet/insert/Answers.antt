use Rattle.ef_tables.proofs.Sets.{inserted}
use Rattle.ef_tables.proofs.function_set.FunctionSet.insert.Goals as goal

pub returns-clause-inserts : goal.returns-clause-inserts
returns-clause-inserts c =
    rw (← c.self.view_is) (inserted c.args.function c.self.inside.keys.keys c.insert_full.new.self.keys c.in_ok-is_new.is_new c.in_ok-is_new.ensures.added c.in_ok-is_new.ensures.keys)

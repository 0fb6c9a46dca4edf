use Rattle.ef_tables.proofs.Calls.{called}
use Rattle.ef_tables.proofs.built.is_call_of.Goals as goal

pub returns-in-Atom : goal.returns-in-Atom
returns-in-Atom c = called c.args.names.now c.args.defined.now c.args.target.now c.in-Atom.name c.args.args.now c.is_defined.result c.in-Atom.is c.is_defined.ensures

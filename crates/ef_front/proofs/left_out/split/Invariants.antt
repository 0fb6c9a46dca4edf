use Rattle.ef_module.specs.Modules.{lists}
use Rattle.ef_front.specs.Compiles.{AreSplit}
use Rattle.ef_front.proofs.left_out.split.Given as goal

abbrev pub invariant-loop-tokens : goal.invariant-loop-tokens
invariant-loop-tokens l = AreSplit l.names (lists l.yielded) (lists l.kept.items) l.initial.found l.found

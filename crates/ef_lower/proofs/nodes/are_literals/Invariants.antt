use Rattle.std.proofs.Common.{take}
use Rattle.ef_core.specs.Normal.{AreLits}
use Rattle.ef_core.specs.Plain.{plain_all}
use Rattle.ef_lower.proofs.nodes.are_literals.Given as goal

abbrev pub invariant-loop-expr : goal.invariant-loop-expr
invariant-loop-expr l = AreLits (plain_all (take l.expr-index l.exprs))

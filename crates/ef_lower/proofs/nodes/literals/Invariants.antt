use Rattle.std.proofs.Common.{◌≡◌, map}
use Rattle.ef_core.specs.Plain.{plain, plain_lit}
use Rattle.ef_lower.specs.Nodes.{literal_values}
use Rattle.ef_lower.proofs.nodes.literals.Given as goal

abbrev pub invariant-loop-expr : goal.invariant-loop-expr
invariant-loop-expr l =
    (goal.iterator-loop-expr).can_next l.expr-iterator ×
    (goal.iterator-loop-expr).is_finite l.expr-iterator ×
    (map plain l.yielded ≡ literal_values (map plain_lit l.literals.items))

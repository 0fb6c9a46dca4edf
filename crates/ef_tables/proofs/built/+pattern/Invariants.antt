use Rattle.std.proofs.Common.{drop}
use Rattle.ef_forms.specs.Built.{ArePatterns}
use Rattle.ef_forms.specs.Plain.{plain_all}
use Rattle.ef_tables.proofs.built.+pattern.Given as goal

abbrev pub invariant-are_patterns-loop-expr : goal.invariant-are_patterns-loop-expr
invariant-are_patterns-loop-expr l =
    (ArePatterns (plain_all l.exprs) → ArePatterns (plain_all (drop l.expr-index l.exprs)))
    × (ArePatterns (plain_all (drop l.expr-index l.exprs)) → ArePatterns (plain_all l.exprs))

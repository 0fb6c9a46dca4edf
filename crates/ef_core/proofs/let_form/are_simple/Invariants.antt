use Rattle.std.proofs.Common.{◌↔◌, drop}
use Rattle.ef_core.specs.LetForm.{AreSimple}
use Rattle.ef_core.specs.Plain.{plain_all}
use Rattle.ef_core.proofs.let_form.are_simple.Given as goal

abbrev pub invariant-loop-expr : goal.invariant-loop-expr
invariant-loop-expr l =
    AreSimple (plain_all (drop l.expr-index l.exprs)) ↔ AreSimple (plain_all l.exprs)

use Rattle.std.proofs.Common.{◌≡◌, map, take}
use Rattle.ef_core.specs.Plain.{plain_pat}
use Rattle.ef_core.specs.Tree as c
use Rattle.ef_lower.proofs.last.patterns.Given as goal

abbrev pub invariant-loop-var : goal.invariant-loop-var
invariant-loop-var l = map plain_pat l.pats.items ≡ map (λ y. c.pat_var y) (take l.var-index l.vars)

use Rattle.std.proofs.Common.{◌≡◌, ◌<◌, ◌+◌, ◌-◌, ◌^◌, drop, min}
use Rattle.ef_core.specs.Plain.{plain_lits}
use Rattle.ef_core.specs.Weight.{lits_weight}
use Rattle.ef_core.proofs.weight.+literal_weight.Given as goal

abbrev pub invariant-weight_of_literals-loop-literal : goal.invariant-weight_of_literals-loop-literal
invariant-weight_of_literals-loop-literal l =
    (l.so_far < 2 ^ 64) × (min (l.so_far + lits_weight (plain_lits (drop l.literal-index l.literals))) (2 ^ 64 - 1) ≡ min (lits_weight (plain_lits l.literals)) (2 ^ 64 - 1))

use Rattle.std.proofs.Common.{◌≡◌, ◌<◌, ◌-◌, ◌^◌, drop, max, min}
use Rattle.ef_core.specs.Depth.{lits_depth}
use Rattle.ef_core.specs.Plain.{plain_lits}
use Rattle.ef_core.proofs.depth.+literal_depth.Given as goal

abbrev pub invariant-depth_of_literals-loop-literal : goal.invariant-depth_of_literals-loop-literal
invariant-depth_of_literals-loop-literal l =
    (l.so_far < 2 ^ 32) × (min (max l.so_far (lits_depth (plain_lits (drop l.literal-index l.literals)))) (2 ^ 32 - 1) ≡ min (lits_depth (plain_lits l.literals)) (2 ^ 32 - 1))

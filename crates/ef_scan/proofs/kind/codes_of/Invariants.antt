use Rattle.std.proofs.Common.{take, ◌≡◌}
use Rattle.ef_scan.proofs.kind.codes_of.Given as goal

abbrev pub invariant-loop-c : goal.invariant-loop-c
invariant-loop-c l = l.codes.items ≡ take l.c-index l.found

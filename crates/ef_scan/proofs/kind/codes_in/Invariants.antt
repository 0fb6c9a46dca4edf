use Rattle.std.proofs.Common.{◌≡◌}
use Rattle.ef_scan.proofs.kind.codes_in.Given as goal

abbrev pub invariant-loop-c : goal.invariant-loop-c
invariant-loop-c l = l.codes.items ≡ l.yielded

use Rattle.ef_front.proofs.Counted.{guard_left}
use Rattle.ef_front.proofs.sizes.size_of_guard.Given as goal

abbrev pub invariant-loop-tests : goal.invariant-loop-tests
invariant-loop-tests l = guard_left l.guard l.tests-index l.so_far

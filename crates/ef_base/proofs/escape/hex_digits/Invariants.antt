use Rattle.ef_base.proofs.HexDigits.{AreLeft}
use Rattle.ef_base.proofs.escape.hex_digits.Given as goal

abbrev pub invariant-loop-rest : goal.invariant-loop-rest
invariant-loop-rest l = AreLeft l.code l.rest l.text

abbrev pub decreases-loop-rest : goal.decreases-loop-rest
decreases-loop-rest l = l.rest

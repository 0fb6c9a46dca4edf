use Rattle.std.proofs.Common.{ℕ, ◌<◌, ◌≤◌}
use Rattle.ef_base.specs.Texts.{HasText}
use Rattle.ef_base.proofs.Unused.{numbered}
use Rattle.ef_base.proofs.names.unused_text.Given as goal

abbrev pub invariant-loop-number : goal.invariant-loop-number
invariant-loop-number l = (k : ℕ) → l.count ≤ k → k < l.number-counter → HasText l.names (numbered k)

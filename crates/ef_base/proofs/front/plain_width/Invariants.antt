use Rattle.std.proofs.Common.{length, ◌-◌, ◌≤◌, take}
use Rattle.ef_base.specs.Characters.{Each}
use Rattle.ef_base.specs.Escaped.{is_plain}
use Rattle.ef_base.proofs.front.plain_width.Given as goal

abbrev pub invariant-loop-byte : goal.invariant-loop-byte
invariant-loop-byte l = (l.width ≤ length l.bytes) × Each (is_plain l.quote) (take l.width l.bytes)

abbrev pub decreases-loop-byte : goal.decreases-loop-byte
decreases-loop-byte l = length l.bytes - l.width

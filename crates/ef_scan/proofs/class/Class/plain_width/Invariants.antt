use Rattle.std.proofs.Common.{length, ◌-◌, ◌≤◌, take}
use Rattle.ef_base.specs.Characters.{Each}
use Rattle.ef_scan.specs.Cursors.{is_plain_of}
use Rattle.ef_scan.proofs.class.Class.plain_width.Given as goal

abbrev pub invariant-loop-byte : goal.invariant-loop-byte
invariant-loop-byte l = (l.width ≤ length l.bytes) × Each (is_plain_of l.self) (take l.width l.bytes)

abbrev pub decreases-loop-byte : goal.decreases-loop-byte
decreases-loop-byte l = length l.bytes - l.width

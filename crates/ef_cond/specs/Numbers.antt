-- Numbers of conditions. They lie in the range of 128 bits in two's complement.
use Rattle.std.specs.Prelude.{ℕ, ℤ, pos, negsuc, ◌*ℤ◌, suc, ◌^◌, Bool, nat_lt, nat_eq, unsigned_abs, if◌then◌else◌}
use Rattle.std.specs.Int.{int_shr}
use Rattle.ef_base.specs.FaultTable as fault
use Rattle.ef_cond.specs.Values.{Value, number, fails}

-- from -2 ^ 127 to 2 ^ 127 - 1
abbrev pub in_range : ℤ → Bool
in_range (pos n) = nat_lt n (2 ^ 127)
in_range (negsuc n) = nat_lt n (2 ^ 127)

abbrev pub ranged : ℤ → Value
ranged i = if in_range i then number i else fails fault.out_of_range

-- of a quotient or a remainder by this divisor
abbrev pub divided : ℤ → Value → Value
divided by v = if nat_eq (unsigned_abs by) 0 then fails fault.condition_fails else v

-- `i * 2 ^ count`
abbrev pub left : ℤ → ℕ → Value
left i count = ranged (i *ℤ pos (2 ^ count))

-- `i / 2 ^ count`, rounded down
abbrev pub right : ℤ → ℕ → Value
right i count = number (int_shr i count)

-- a shift by a count below zero goes the other way
abbrev pub shifted_left : ℤ → ℤ → Value
shifted_left i (pos n) = left i n
shifted_left i (negsuc n) = right i (suc n)

abbrev pub shifted_right : ℤ → ℤ → Value
shifted_right i (pos n) = right i n
shifted_right i (negsuc n) = left i (suc n)

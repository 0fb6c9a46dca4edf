-- What operators make of values (Erlang Reference Manual, "Expressions"): a line an operator. An operand that fails fails the
-- whole, the left one first.
use Rattle.std.specs.Prelude.{ℕ, ℤ, ◌+ℤ◌, ◌-ℤ◌, ◌*ℤ◌, neg_ℤ, int_div, int_rem, Bool, true, false, ◌&&◌, ◌||◌, not, cond, List, [], codes}
use Rattle.std.specs.Int.{w128, int_bit_and, int_bit_or, int_bit_xor, int_bit_not}
use Rattle.std.specs.Ordering.{nat_cmp, int_cmp, is_eq, is_ne, is_lt, is_gt, is_le, is_ge}
use Rattle.std.specs.declared.cmp.Ordering.{Ordering}
use Rattle.std.specs.declared.cmp.Ordering.TheVariants.{Less, Greater}
use Rattle.std.specs.Cmp.Lexicographic.{slice_cmp}
use Rattle.ef_cond.specs.declared.value.Operator.{Operator}
use Rattle.ef_cond.specs.declared.value.Operator.TheVariants as op
use Rattle.ef_base.specs.FaultTable as fault
use Rattle.ef_cond.specs.Values.{Value, number, truth, atom, fails}
use Rattle.ef_cond.specs.Numbers.{ranged, divided, shifted_left, shifted_right}

-- of operands of another kind
abbrev pub wrong : Value
wrong = fails fault.condition_fails

-- ---- order: numbers are less than atoms, and atoms are ordered by their texts, whose bytes of UTF-8 are in the order of
-- the characters

abbrev pub text : Value → List ℕ
text (truth true) = codes "true"
text (truth false) = codes "false"
text (atom t) = t
text _ = []

abbrev pub compared : Value → Value → Ordering
compared (number i) (number j) = int_cmp i j
compared (number i) y = Less
compared x (number j) = Greater
compared x y = slice_cmp nat_cmp (text x) (text y)

-- ---- between two operands

-- of any values; of two numbers `==` is `=:=`
abbrev pub on_values : Operator → Value → Value → Value
on_values op.Equal x y = truth (is_eq (compared x y))
on_values op.NotEqual x y = truth (is_ne (compared x y))
on_values op.Less x y = truth (is_lt (compared x y))
on_values op.AtMost x y = truth (is_le (compared x y))
on_values op.Greater x y = truth (is_gt (compared x y))
on_values op.AtLeast x y = truth (is_ge (compared x y))
on_values _ x y = wrong

-- quotients are rounded toward zero, and remainders have the sign of the dividend
abbrev pub on_numbers : Operator → ℤ → ℤ → Value
on_numbers op.Plus i j = ranged (i +ℤ j)
on_numbers op.Minus i j = ranged (i -ℤ j)
on_numbers op.Times i j = ranged (i *ℤ j)
on_numbers op.Div i j = divided j (ranged (int_div i j))
on_numbers op.Rem i j = divided j (ranged (int_rem i j))
on_numbers op.Band i j = number (int_bit_and w128 i j)
on_numbers op.Bor i j = number (int_bit_or w128 i j)
on_numbers op.Bxor i j = number (int_bit_xor w128 i j)
on_numbers op.Bsl i j = shifted_left i j
on_numbers op.Bsr i j = shifted_right i j
on_numbers o i j = on_values o (number i) (number j)

abbrev pub on_truths : Operator → Bool → Bool → Value
on_truths op.And a b = truth (a && b)
on_truths op.Or a b = truth (a || b)
on_truths op.Xor a b = truth (cond a (not b) b)
on_truths o a b = on_values o (truth a) (truth b)

abbrev pub between : Operator → Value → Value → Value
between o (fails c) y = fails c
between o x (fails c) = fails c
between o (number i) (number j) = on_numbers o i j
between o (truth a) (truth b) = on_truths o a b
between o x y = on_values o x y

-- ---- in front of one operand

abbrev pub in_front : Operator → Value → Value
in_front o (fails c) = fails c
in_front op.Plus (number i) = number i
in_front op.Minus (number i) = ranged (neg_ℤ i)
in_front op.Bnot (number i) = number (int_bit_not w128 i)
in_front op.Not (truth b) = truth (not b)
in_front _ x = wrong

-- ---- where the left side decides, the right one does not count: neither its value nor a fault of it

abbrev pub and_also : Value → Value → Value
and_also (truth true) y = y
and_also (truth false) y = truth false
and_also (fails c) y = fails c
and_also x y = wrong

abbrev pub or_else : Value → Value → Value
or_else (truth true) y = truth true
or_else (truth false) y = y
or_else (fails c) y = fails c
or_else x y = wrong

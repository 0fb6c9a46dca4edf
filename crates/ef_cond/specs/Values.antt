-- Values of conditions, and what has been read of a condition: a stack of operands and operators.
use Rattle.std.specs.Prelude.{ℕ, ℤ, Bool, List, map, reverse}
use Rattle.ef_cond.specs.declared.value.Operator.{Operator}
use Rattle.ef_cond.specs.declared.value.Value.{Value as TheValue}
use Rattle.ef_cond.specs.declared.value.Value.TheVariants as value_is
use Rattle.ef_cond.specs.declared.value.Operand.{Operand as TheOperand}
use Rattle.ef_cond.specs.declared.value.Item.{Item as TheItem}
use Rattle.ef_cond.specs.declared.value.Item.TheVariants as item_is
use Rattle.ef_cond.specs.declared.stack.Read.{Read as TheRead}

pub data Value : Type 0 where
  number : ℤ → Value
  -- the atoms `true` and `false`
  truth : Bool → Value
  -- another atom, by its text
  atom : List ℕ → Value
  -- none, but the code of a fault
  fails : ℕ → Value

-- a value, and the nesting of what has it, which counts up to the greatest one
pub record Operand : Type 0 where
  pub value : Value
  pub nest : ℕ

pub data Item : Type 0 where
  operand : Operand → Item
  operator : Operator → Item

-- the items, the last one first, and whether something was nested too deep
pub record Read : Type 0 where
  pub items : List Item
  pub deep : Bool

-- ---- what values of the program stand for

abbrev pub value_of : TheValue → Value
value_of (value_is.Number i) = number i
value_of (value_is.Truth b) = truth b
value_of (value_is.Atom text) = atom text.now
value_of (value_is.Fails code) = fails code

abbrev pub operand_of : TheOperand → Operand
operand_of x = record { value = value_of x.value; nest = x.nest }

abbrev pub item_of : TheItem → Item
item_of (item_is.Operand x) = operand (operand_of x)
item_of (item_is.Operator o) = operator o

abbrev pub stack : List TheItem → List Item
stack is = reverse (map item_of is)

abbrev pub shown : TheRead → Read
shown r = record { items = stack r.items.items; deep = r.deep }

-- What actions make of the stack. An item of another kind on top refuses what has been read.
use Rattle.std.specs.Prelude.{ℕ, ◌+◌, max, nat_lt, true, false, List, [], ◌∷◌, Option, Some, None, if◌then◌else◌}
use Rattle.ef_cond.specs.declared.value.Operator.{Operator}
use Rattle.ef_cond.specs.Values.{Value, Operand, Item, Read, operand, operator}
use Rattle.ef_cond.specs.Operators as o

-- the greatest nesting
abbrev pub most_nesting : ℕ
most_nesting = 128

abbrev pub nothing : Read
nothing = record { items = []; deep = false }

abbrev pub rest : List Item → List Item
rest [] = []
rest (i ∷ is) = is

-- without the last item
abbrev pub under : Read → Read
under s = record { items = rest s.items; deep = s.deep }

abbrev pub with : Item → Read → Read
with i s = record { items = i ∷ s.items; deep = s.deep }

-- ---- the last item, of each kind

abbrev pub top_operand : List Item → Option Operand
top_operand (operand x ∷ is) = Some x
top_operand _ = None

abbrev pub top_operator : List Item → Option Operator
top_operator (operator o ∷ is) = Some o
top_operator _ = None

-- ---- actions

abbrev pub Action : Type 0
Action = Read → Option Read

abbrev pub given : {A : Type 0} → Option A → (A → Action) → Action
given (Some x) f s = f x s
given None f s = None

-- the last item, if it is of the kind, is taken and used
abbrev pub take : {A : Type 0} → (List Item → Option A) → (A → Action) → Action
take top f s = given (top s.items) f (under s)

-- an operand whose parts have this nesting
abbrev pub made : ℕ → Value → Action
made parts v s =
    if nat_lt parts most_nesting
    then Some (with (operand (record { value = v; nest = parts + 1 })) s)
    else Some (record { items = operand (record { value = v; nest = most_nesting }) ∷ s.items; deep = true })

-- parentheses are a level
abbrev pub parens : Action
parens = take top_operand (λ x. made x.nest x.value)

abbrev pub unary : Action
unary = take top_operand (λ x. take top_operator (λ op. made x.nest (o.in_front op x.value)))

abbrev pub binary : Action
binary = take top_operand (λ y. take top_operator (λ op. take top_operand (λ x. made (max x.nest y.nest) (o.between op x.value y.value))))

abbrev pub and_also : Action
and_also = take top_operand (λ y. take top_operand (λ x. made (max x.nest y.nest) (o.and_also x.value y.value)))

abbrev pub or_else : Action
or_else = take top_operand (λ y. take top_operand (λ x. made (max x.nest y.nest) (o.or_else x.value y.value)))

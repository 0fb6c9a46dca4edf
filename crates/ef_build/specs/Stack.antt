-- How actions take values from the stack and put others there. A value of another kind on top refuses what has been read.
use Rattle.std.specs.Prelude.{ℕ, ℤ, ◌+◌, min, nat_lt, Bool, true, false, ◌||◌, List, [], ◌∷◌, Option, Some, None, if◌then◌else◌}
use Rattle.ef_base.specs.declared.fault.Place.{Place}
use Rattle.ef_base.specs.declared.name.Name.{Name}
use Rattle.ef_forms.specs.declared.form.FunctionRef.{FunctionRef}
use Rattle.ef_forms.specs.Tree as t
use Rattle.ef_forms.specs.Tree.{Shape, FieldTree, FormTree, tree}
use Rattle.ef_build.specs.declared.value.Operator.{Operator}
use Rattle.ef_build.specs.declared.value.Mark.{Mark}
use Rattle.ef_build.specs.Values.{Leaf, Operand, Items, Guard, Clauses, Caught, Catches, OpenSegment, Segments, Qualifiers, Steps, Fields, Value, Read, atom, int, at, operator, leaf, operand, items, guard, clauses, mark, caught, catches, open_segment, segments, qualifiers, steps, fields, definitions, references, form}

-- the greatest nesting
abbrev pub most_nesting : ℕ
most_nesting = 128

abbrev pub nothing : Read
nothing = record { values = []; faults = []; trace = None; deep = false }

abbrev pub rest : List Value → List Value
rest [] = []
rest (v ∷ vs) = vs

-- without the last value
abbrev pub under : Read → Read
under s = record { values = rest s.values; faults = s.faults; trace = s.trace; deep = s.deep }

abbrev pub with : Value → Read → Read
with v s = record { values = v ∷ s.values; faults = s.faults; trace = s.trace; deep = s.deep }

-- ---- the last value, of each kind

abbrev pub top_at : List Value → Option Place
top_at (at p ∷ vs) = Some p
top_at _ = None

abbrev pub top_operator : List Value → Option (Operator × Place)
top_operator (operator o p ∷ vs) = Some (o, p)
top_operator _ = None

abbrev pub top_leaf : List Value → Option (Leaf × Place)
top_leaf (leaf l p ∷ vs) = Some (l, p)
top_leaf _ = None

abbrev pub top_operand : List Value → Option Operand
top_operand (operand x ∷ vs) = Some x
top_operand _ = None

abbrev pub top_items : List Value → Option Items
top_items (items x ∷ vs) = Some x
top_items _ = None

abbrev pub top_guard : List Value → Option Guard
top_guard (guard x ∷ vs) = Some x
top_guard _ = None

abbrev pub top_clauses : List Value → Option Clauses
top_clauses (clauses x ∷ vs) = Some x
top_clauses _ = None

abbrev pub top_mark : List Value → Option Mark
top_mark (mark m ∷ vs) = Some m
top_mark _ = None

abbrev pub top_caught : List Value → Option Caught
top_caught (caught x ∷ vs) = Some x
top_caught _ = None

abbrev pub top_catches : List Value → Option Catches
top_catches (catches x ∷ vs) = Some x
top_catches _ = None

abbrev pub top_open_segment : List Value → Option OpenSegment
top_open_segment (open_segment x ∷ vs) = Some x
top_open_segment _ = None

abbrev pub top_segments : List Value → Option Segments
top_segments (segments x ∷ vs) = Some x
top_segments _ = None

abbrev pub top_qualifiers : List Value → Option Qualifiers
top_qualifiers (qualifiers x ∷ vs) = Some x
top_qualifiers _ = None

abbrev pub top_steps : List Value → Option Steps
top_steps (steps x ∷ vs) = Some x
top_steps _ = None

abbrev pub top_fields : List Value → Option Fields
top_fields (fields x ∷ vs) = Some x
top_fields _ = None

abbrev pub top_definitions : List Value → Option (List FieldTree)
top_definitions (definitions ds ∷ vs) = Some ds
top_definitions _ = None

abbrev pub top_references : List Value → Option (List FunctionRef)
top_references (references rs ∷ vs) = Some rs
top_references _ = None

abbrev pub top_form : List Value → Option FormTree
top_form (form f ∷ vs) = Some f
top_form _ = None

-- ---- actions

abbrev pub Action : Type 0
Action = Read → Option Read

abbrev pub given : {A : Type 0} → Option A → (A → Action) → Action
given (Some x) f s = f x s
given None f s = None

-- the last value, if it is of the kind, is taken and used
abbrev pub take : {A : Type 0} → (List Value → Option A) → (A → Action) → Action
take top f s = given (top s.values) f (under s)

abbrev pub put : Value → Action
put v s = Some (with v s)

abbrev pub refuse : Action
refuse s = None

-- Nestings count up to the greatest one: what has parts of that nesting is too deep.
abbrev pub deeper : ℕ → ℕ → ℕ
deeper levels nest = min (levels + nest) most_nesting

-- An expression whose parts have this nesting. Of one that is nested too deep nothing is kept, but that there was one.
abbrev pub made : ℕ → Place → Place → Shape → Action
made parts start place shape s =
    if nat_lt parts most_nesting
    then Some (with (operand (record { start = start; nest = parts + 1; tree = tree place shape })) s)
    else Some (record { values = operand (record { start = start; nest = 0; tree = tree place t.any }) ∷ s.values; faults = s.faults; trace = s.trace; deep = true })

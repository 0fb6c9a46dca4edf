-- Actions that make expressions of one or a few expressions.
use Rattle.std.specs.Prelude.{ℕ, ℤ, pos, negsuc, ◌^◌, ◌-◌, max, min, Bool, true, false, ◌&&◌, List, [], ◌∷◌, ◌++◌, Option, Some, None, cond}
use Rattle.ef_base.specs.declared.fault.Place.{Place}
use Rattle.ef_base.specs.declared.name.Name.{Name}
use Rattle.ef_forms.specs.declared.expr.UnaryOp.{UnaryOp}
use Rattle.ef_forms.specs.declared.expr.UnaryOp.TheVariants as unary_is
use Rattle.ef_forms.specs.declared.expr.BinaryOp.{BinaryOp}
use Rattle.ef_forms.specs.declared.expr.BinaryOp.TheVariants as binary_is
use Rattle.ef_forms.specs.Tree as t
use Rattle.ef_forms.specs.Tree.{Tree, Shape, tree}
use Rattle.ef_forms.specs.Plain.{trees}
use Rattle.ef_build.specs.declared.value.Operator.{Operator}
use Rattle.ef_build.specs.declared.value.Operator.TheVariants as op
use Rattle.ef_build.specs.Parts as part
use Rattle.ef_build.specs.Parts.{FieldPart}
use Rattle.ef_build.specs.Values.{Leaf, Operand, Items, Fields, Value, Read, atom, var, any, int, character, string, operand, leaf, items, fields, mark, operator}
use Rattle.ef_build.specs.Stack.{Action, given, take, put, refuse, made, top_at, top_operator, top_leaf, top_operand, top_items, top_fields}

-- ---- single tokens

abbrev pub leaf_shape : Leaf → Shape
leaf_shape (atom n) = t.atom n
leaf_shape (var n) = t.var n
leaf_shape (any n) = t.any
leaf_shape (int i) = t.int i
leaf_shape (character c) = t.character c
leaf_shape (string cs) = t.string cs

abbrev pub on_leaf : Action
on_leaf = take top_leaf (λ l. made 0 l.1 l.1 (leaf_shape l.0))

abbrev pub text_of : Shape → Option (List ℕ)
text_of (t.string cs) = Some cs
text_of _ = None

abbrev pub text_in : Tree → Option (List ℕ)
text_in (tree p e) = text_of e

abbrev pub place_in : Tree → Place
place_in (tree p e) = p

abbrev pub text_in_leaf : Leaf → Option (List ℕ)
text_in_leaf (string cs) = Some cs
text_in_leaf _ = None

-- a text behind a text: one text
abbrev pub join : Action
join =
    take top_leaf (λ l. take top_operand (λ x. given (text_in_leaf l.0) (λ second. given (text_in x.tree) (λ first.
    put (operand (record { start = x.start; nest = x.nest; tree = tree (place_in x.tree) (t.string (first ++ second)) }))))))

abbrev pub name_in : Leaf → Option Name
name_in (atom n) = Some n
name_in _ = None

-- the name of a variable, `_` among them
abbrev pub variable_in : Leaf → Option Name
variable_in (var n) = Some n
variable_in (any n) = Some n
variable_in _ = None

abbrev pub number_in : Leaf → Option ℤ
number_in (int i) = Some i
number_in _ = None

-- a number of parameters; a greater one stands as the greatest of 32 bits
abbrev pub arity_of : ℤ → ℕ
arity_of (pos n) = min n (2 ^ 32 - 1)
arity_of (negsuc n) = 2 ^ 32 - 1

-- ---- operators

abbrev pub in_front : Operator → Option UnaryOp
in_front op.Plus = Some unary_is.Plus
in_front op.Minus = Some unary_is.Minus
in_front (op.Before o) = Some o
in_front _ = None

abbrev pub between : Operator → Option BinaryOp
between op.Plus = Some binary_is.Add
between op.Minus = Some binary_is.Sub
between (op.Between o) = Some o
between _ = None

-- parentheses are a level, and no part of the tree
abbrev pub enclosed : ℕ → Place → Tree → Action
enclosed nest start (tree place shape) = made nest start place shape

abbrev pub parens : Action
parens = take top_operand (λ x. take top_at (λ p. enclosed x.nest p x.tree))

abbrev pub catching : Action
catching = take top_operand (λ x. take top_operator (λ o. made x.nest o.1 o.1 (t.catching x.tree)))

abbrev pub unary : Action
unary = take top_operand (λ x. take top_operator (λ o. given (in_front o.0) (λ u. made x.nest o.1 o.1 (t.unary u x.tree))))

-- an expression of two, which starts where the left one does
abbrev pub two : (Tree → Tree → Shape) → Action
two shape = take top_operand (λ y. take top_operand (λ x. made (max x.nest y.nest) x.start x.start (shape x.tree y.tree)))

abbrev pub matching : Action
matching = two t.matching

abbrev pub and_also : Action
and_also = two t.and_also

abbrev pub or_else : Action
or_else = two t.or_else

abbrev pub binary : Action
binary =
    take top_operand (λ y. take top_operator (λ o. take top_operand (λ x. given (between o.0) (λ b.
    made (max x.nest y.nest) x.start x.start (t.operation b x.tree y.tree)))))

-- ---- calls and records

abbrev pub call : Action
call = take top_items (λ es. take top_at (λ p. take top_operand (λ f. made (max f.nest es.nest) f.start f.start (t.call f.tree (trees es.trees)))))

abbrev pub remote : Action
remote =
    take top_items (λ es. take top_at (λ p. take top_operand (λ f. take top_operand (λ m.
    made (max (max m.nest f.nest) es.nest) m.start m.start (t.remote m.tree f.tree (trees es.trees))))))

abbrev pub top_atom : List Value → Option (Name × Place)
top_atom (leaf (atom n) p ∷ vs) = Some (n, p)
top_atom _ = None

abbrev pub record_new : Action
record_new = take top_fields (λ fs. take top_at (λ q. take top_atom (λ n. take top_at (λ p. made fs.nest p p (t.record_new n.0 (part.fields fs.fields))))))

abbrev pub record_index : Action
record_index = take top_atom (λ f. take top_atom (λ n. take top_at (λ p. made 0 p p (t.record_index n.0 f.0))))

abbrev pub record_update : Action
record_update =
    take top_fields (λ fs. take top_at (λ q. take top_atom (λ n. take top_at (λ p. take top_operand (λ x.
    made (max x.nest fs.nest) x.start x.start (t.record_update x.tree n.0 (part.fields fs.fields)))))))

abbrev pub record_field : Action
record_field = take top_atom (λ f. take top_atom (λ n. take top_at (λ p. take top_operand (λ x. made x.nest x.start x.start (t.record_field x.tree n.0 f.0)))))

abbrev pub no_fields : Action
no_fields = put (fields (record { fields = []; nest = 0 }))

-- the name of a field that is set; `_` has none
abbrev pub field_name : Leaf → Option (Option Name)
field_name (atom n) = Some (Some n)
field_name (any n) = Some None
field_name _ = None

abbrev pub field : Action
field =
    take top_operand (λ x. take top_leaf (λ l. take top_fields (λ fs. given (field_name l.0) (λ n.
    put (fields (record { fields = fs.fields ++ record { place = l.1; name = n; value = x.tree } ∷ []; nest = max fs.nest x.nest }))))))

-- ---- expressions side by side

abbrev pub none : Action
none = put (items (record { trees = []; start = None; nest = 0 }))

abbrev pub or_this : Option Place → Place → Option Place
or_this (Some p) q = Some p
or_this None q = Some q

abbrev pub add : Action
add = take top_operand (λ x. take top_items (λ es. put (items (record { trees = es.trees ++ x.tree ∷ []; start = or_this es.start x.start; nest = max es.nest x.nest }))))

-- a construct of these, which starts at its bracket or its word
abbrev pub all : (List Tree → Shape) → Action
all shape = take top_items (λ es. take top_at (λ p. made es.nest p p (shape es.trees)))

abbrev pub list : Action
list = all (λ es. t.list (trees es))

abbrev pub tuple : Action
tuple = all (λ es. t.tuple (trees es))

abbrev pub block : Action
block = all (λ es. t.block (trees es))

abbrev pub list_to : Action
list_to = take top_operand (λ x. take top_items (λ es. take top_at (λ p. made (max es.nest x.nest) p p (t.list_to (trees es.trees) x.tree))))

-- `Name/Arity` in a constant
abbrev pub name_arity : Action
name_arity =
    take top_leaf (λ a. take top_operator (λ o. take top_atom (λ n. given (number_in a.0) (λ i.
    made 1 n.1 n.1 (t.tuple (t.more (tree n.1 (t.atom n.0)) (t.more (tree a.1 (t.int i)) t.end)))))))

-- ---- the stack trace of a clause that catches

-- the pattern of such a clause ends here: in front of it there is nothing but its mark
abbrev pub at_catch : List Value → Bool
at_catch (operand x ∷ vs) = at_catch vs
at_catch (operator o p ∷ vs) = at_catch vs
at_catch (mark m ∷ vs) = true
at_catch _ = false

-- what the last value tells of it, if not what stands below
abbrev pub tells : Value → Option Bool
tells (operand x) = None
tells (operator o p) = None
tells (mark m) = Some true
tells _ = Some false

abbrev pub may_trace : Action
may_trace s = cond (at_catch s.values) (Some s) None

-- the name of a stack trace; `_` is none
abbrev pub trace_name : Leaf → Option (Option Name)
trace_name (var n) = Some (Some n)
trace_name (any n) = Some None
trace_name _ = None

abbrev pub trace : Action
trace = take top_leaf (λ l. given (trace_name l.0) (λ n s. cond (at_catch s.values) (Some (record { values = s.values; faults = s.faults; trace = n; deep = s.deep })) None))

abbrev pub top_value : List Value → Option Value
top_value [] = None
top_value (v ∷ vs) = Some v

-- what has no part in trees, as a word in a type
abbrev pub drop : Action
drop = take top_value (λ v. Some)

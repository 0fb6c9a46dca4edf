-- Actions that make forms. The kind of an attribute, and with it what its name is, is told before its tokens are read.
use Rattle.std.specs.Prelude.{ℕ, ◌^◌, ◌-◌, min, List, [], ◌∷◌, ◌++◌, Option, Some, None}
use Rattle.ef_base.specs.declared.name.Name.{Name}
use Rattle.ef_forms.specs.Tree as t
use Rattle.ef_forms.specs.Plain as p
use Rattle.ef_forms.specs.Plain.{ClauseTree}
use Rattle.ef_build.specs.declared.value.Head.{Head}
use Rattle.ef_build.specs.Values.{Value, clauses, definitions, references, form}
use Rattle.ef_build.specs.Stack.{Action, given, take, put, top_at, top_operator, top_leaf, top_operand, top_clauses, top_definitions, top_references}
use Rattle.ef_build.specs.Expressions.{top_atom, number_in, arity_of}

abbrev pub function_of : Head → List ClauseTree → Action
function_of h cs = given h.name (λ n. put (form (t.function (record { place = h.place; name = n; arity = min h.arity (2 ^ 32 - 1); clauses = p.clauses cs }))))

-- by the head of the first clause
abbrev pub function : Action
function = take top_clauses (λ cs. given cs.first (λ h. function_of h cs.clauses))

-- ---- attributes

abbrev pub no_references : Action
no_references = put (references [])

abbrev pub reference : Action
reference =
    take top_leaf (λ a. take top_operator (λ o. take top_atom (λ n. take top_references (λ rs. given (number_in a.0) (λ i.
    put (references (rs ++ record { place = n.1; name = n.0; arity = arity_of i } ∷ [])))))))

abbrev pub no_definitions : Action
no_definitions = put (definitions [])

-- a field without a value to begin with
abbrev pub definition : Action
definition = take top_atom (λ n. take top_definitions (λ ds. put (definitions (ds ++ record { place = n.1; name = n.0; default = None } ∷ []))))

abbrev pub definition_with : Action
definition_with =
    take top_operand (λ x. take top_atom (λ n. take top_definitions (λ ds.
    put (definitions (ds ++ record { place = n.1; name = n.0; default = Some x.tree } ∷ [])))))

abbrev pub module_name : Action
module_name = take top_atom (λ n. take top_at (λ q. take top_atom (λ w. take top_operator (λ o. put (form (t.module_name n.0))))))

abbrev pub export : Action
export = take top_references (λ rs. take top_at (λ q. take top_at (λ r. take top_atom (λ w. take top_operator (λ o. put (form (t.export rs)))))))

abbrev pub import : Action
import =
    take top_references (λ rs. take top_at (λ q. take top_atom (λ n. take top_at (λ r. take top_atom (λ w. take top_operator (λ o.
    put (form (t.import n.0 rs))))))))

-- a record stands at its `-`
abbrev pub record_of : Action
record_of =
    take top_definitions (λ ds. take top_at (λ q. take top_atom (λ n. take top_at (λ r. take top_atom (λ w. take top_operator (λ o.
    put (form (t.record_of (record { place = o.1; name = n.0; fields = ds })))))))))

abbrev pub dropped : Action
dropped = take top_atom (λ w. take top_operator (λ o. put (form t.dropped)))

abbrev pub attribute : Action
attribute = take top_operand (λ x. take top_at (λ q. take top_atom (λ w. take top_operator (λ o. put (form (t.attribute w.0 x.tree))))))

-- Actions that make constructs of several parts: binaries, comprehensions, clauses, and what has clauses.
use Rattle.std.specs.Prelude.{ℕ, ℤ, ◌+◌, max, length, nat_eq, Bool, true, false, ◌&&◌, List, [], ◌∷◌, ◌++◌, Option, Some, None, cond, map}
use Rattle.ef_base.specs.declared.fault.Fault.{Fault}
use Rattle.ef_base.specs.declared.fault.Place.{Place}
use Rattle.ef_base.specs.declared.name.Name.{Name}
use Rattle.ef_base.specs.FaultTable as table
use Rattle.ef_base.specs.NamedFaults.{plain}
use Rattle.ef_forms.specs.declared.expr.ClassPart.{ClassPart}
use Rattle.ef_forms.specs.declared.expr.ClassPart.TheVariants as class_is
use Rattle.ef_forms.specs.declared.expr.TypeWord.{TypeWord}
use Rattle.ef_forms.specs.Tree as t
use Rattle.ef_forms.specs.Tree.{Tree, Shape, MaybeClauses, MaybeTrees}
use Rattle.ef_forms.specs.Plain as p
use Rattle.ef_forms.specs.Plain.{ClauseTree, trees}
use Rattle.ef_build.specs.declared.binaries.Arrow.{Arrow}
use Rattle.ef_build.specs.declared.value.Head.{Head}
use Rattle.ef_build.specs.declared.value.Mark.{Mark}
use Rattle.ef_build.specs.declared.value.Operator.{Operator}
use Rattle.ef_build.specs.declared.value.Operator.TheVariants as op
use Rattle.ef_build.specs.Parts as part
use Rattle.ef_build.specs.Parts.{SegmentPart, QualifierPart, from_list, from_bits, test}
use Rattle.ef_build.specs.Values.{Leaf, Operand, Items, Guard, Clauses, Caught, OpenSegment, Segments, Qualifiers, Steps, Read, Value, atom, var, any, items, guard, clauses, mark, caught, catches, open_segment, segments, qualifiers, steps}
use Rattle.ef_build.specs.Stack.{Action, given, take, put, made, deeper, top_at, top_operator, top_leaf, top_operand, top_items, top_guard, top_clauses, top_mark, top_caught, top_catches, top_open_segment, top_segments, top_qualifiers, top_steps}
use Rattle.ef_build.specs.Expressions.{top_atom, name_in, variable_in, number_in, arity_of, or_this}

-- ---- binaries

abbrev pub no_segments : Action
no_segments = put (segments (record { segments = []; nest = 0 }))

abbrev pub bin : Action
bin = take top_segments (λ ss. take top_at (λ q. made ss.nest q q (t.binary (part.segments ss.segments))))

-- a segment begins with its value
abbrev pub segment : Action
segment = take top_operand (λ x. put (open_segment (record { part = record { place = x.start; value = x.tree; size = None; types = [] }; nest = x.nest })))

abbrev pub size : Action
size =
    take top_operand (λ x. take top_open_segment (λ s.
    put (open_segment (record { part = record { place = s.part.place; value = s.part.value; size = Some x.tree; types = s.part.types }; nest = max s.nest x.nest }))))

abbrev pub typed : OpenSegment → TypeWord → Action
typed s w = put (open_segment (record { part = record { place = s.part.place; value = s.part.value; size = s.part.size; types = s.part.types ++ w ∷ [] }; nest = s.nest }))

abbrev pub word : Action
word = take top_atom (λ n. take top_operator (λ o. take top_open_segment (λ s. typed s (record { name = n.0; number = None }))))

abbrev pub word_number : Action
word_number =
    take top_leaf (λ l. take top_atom (λ n. take top_operator (λ o. take top_open_segment (λ s. given (number_in l.0) (λ i.
    typed s (record { name = n.0; number = Some i }))))))

abbrev pub add_segment : Action
add_segment = take top_open_segment (λ s. take top_segments (λ ss. put (segments (record { segments = ss.segments ++ s.part ∷ []; nest = max ss.nest s.nest }))))

-- ---- comprehensions: each qualifier is one level for those behind it and for the head

abbrev pub no_qualifiers : Action
no_qualifiers = put (qualifiers (record { qualifiers = []; levels = 0; nest = 0 }))

abbrev pub qualified : Qualifiers → QualifierPart → ℕ → Action
qualified qs q nest = put (qualifiers (record { qualifiers = qs.qualifiers ++ q ∷ []; levels = deeper qs.levels 1; nest = max qs.nest (deeper qs.levels nest) }))

abbrev pub generator : Bool → Bool → Tree → Tree → QualifierPart
generator false strict p e = from_list p e strict
generator true strict p e = from_bits p e strict

abbrev pub generator_of : Arrow → Tree → Tree → QualifierPart
generator_of a = generator a.is_bits a.strict

abbrev pub arrow : Operator → Option (Tree → Tree → QualifierPart)
arrow op.ListArrow = Some (generator false false)
arrow op.StrictListArrow = Some (generator false true)
arrow op.BitsArrow = Some (generator true false)
arrow op.StrictBitsArrow = Some (generator true true)
arrow _ = None

abbrev pub from : Action
from =
    take top_operand (λ e. take top_operator (λ o. take top_operand (λ p. take top_qualifiers (λ qs. given (arrow o.0) (λ q.
    qualified qs (q p.tree e.tree) (max p.nest e.nest))))))

abbrev pub filter : Action
filter = take top_operand (λ e. take top_qualifiers (λ qs. qualified qs (test e.tree) e.nest))

-- `[` and `<<` have begun a list or a binary before the comprehension shows
abbrev pub list_comp : Action
list_comp =
    take top_qualifiers (λ qs. take top_operand (λ x. take top_items (λ none. take top_at (λ q.
    made (max qs.nest (deeper qs.levels x.nest)) q q (t.list_comp x.tree (part.qualifiers qs.qualifiers))))))

abbrev pub bin_comp : Action
bin_comp =
    take top_qualifiers (λ qs. take top_operand (λ x. take top_segments (λ none. take top_at (λ q.
    made (max qs.nest (deeper qs.levels x.nest)) q q (t.bin_comp x.tree (part.qualifiers qs.qualifiers))))))

-- ---- guards and clauses

abbrev pub no_guard : Action
no_guard = put (guard (record { tests = []; start = None; nest = 0 }))

abbrev pub start_or : Option Place → Option Place → Option Place
start_or (Some p) q = Some p
start_or None q = q

abbrev pub add_guard : Action
add_guard = take top_items (λ es. take top_guard (λ g. put (guard (record { tests = g.tests ++ es.trees ∷ []; start = start_or g.start es.start; nest = max g.nest es.nest }))))

abbrev pub no_clauses : Action
no_clauses = put (clauses (record { clauses = []; first = None; nest = 0 }))

abbrev pub with_clause : Clauses → ClauseTree → Option Head → ℕ → Action
with_clause cs c first nest = put (clauses (record { clauses = cs.clauses ++ c ∷ []; first = first; nest = max cs.nest nest }))

-- a clause of one pattern
abbrev pub clause : Action
clause =
    take top_items (λ body. take top_guard (λ g. take top_operand (λ x. take top_clauses (λ cs.
    with_clause cs (record { place = x.start; patterns = x.tree ∷ []; guard = g.tests; body = body.trees }) cs.first (max (max x.nest g.nest) body.nest)))))

-- a clause of `if`
abbrev pub if_clause : Action
if_clause =
    take top_items (λ body. take top_guard (λ g. take top_clauses (λ cs. given g.start (λ q.
    with_clause cs (record { place = q; patterns = []; guard = g.tests; body = body.trees }) cs.first (max g.nest body.nest)))))

abbrev pub same_name : Option Name → Option Name → Bool
same_name None None = true
same_name (Some m) (Some n) = nat_eq m.index n.index
same_name _ _ = false

abbrev pub same_head : Head → Head → Bool
same_head h k = same_name h.name k.name && nat_eq h.arity k.arity

-- the head of the first clause, and the fault of one that differs from it
abbrev pub first_head : Option Head → Head → Head
first_head (Some h) k = h
first_head None k = k

abbrev pub head_faults : ℕ → Option Head → Head → List Fault
head_faults code (Some h) k = cond (same_head h k) [] (plain k.place code ∷ [])
head_faults code None k = []

abbrev pub noting : List Fault → Action → Action
noting faults act s = act (record { values = s.values; faults = s.faults ++ faults; trace = s.trace; deep = s.deep })

abbrev pub headed : ℕ → Clauses → Head → Items → Guard → Items → Action
headed code cs h ps g body =
    noting (head_faults code cs.first h)
    (with_clause cs (record { place = h.place; patterns = ps.trees; guard = g.tests; body = body.trees }) (Some (first_head cs.first h)) (max (max ps.nest g.nest) body.nest))

-- a clause of a fun without a name
abbrev pub fun_clause : Action
fun_clause =
    take top_items (λ body. take top_guard (λ g. take top_items (λ ps. take top_at (λ q. take top_clauses (λ cs.
    headed table.fun_head_mismatch cs (record { place = q; name = None; arity = length ps.trees }) ps g body)))))

-- a clause of a fun with a name, which is a variable
abbrev pub named_clause : Action
named_clause =
    take top_items (λ body. take top_guard (λ g. take top_items (λ ps. take top_at (λ q. take top_leaf (λ l. take top_clauses (λ cs. given (variable_in l.0) (λ n.
    headed table.fun_head_mismatch cs (record { place = l.1; name = Some n; arity = length ps.trees }) ps g body)))))))

-- a clause of a function
abbrev pub function_clause : Action
function_clause =
    take top_items (λ body. take top_guard (λ g. take top_items (λ ps. take top_at (λ q. take top_atom (λ n. take top_clauses (λ cs.
    headed table.head_mismatch cs (record { place = n.1; name = Some n.0; arity = length ps.trees }) ps g body))))))

-- ---- what has clauses

abbrev pub if_of : Action
if_of = take top_clauses (λ cs. take top_at (λ q. made cs.nest q q (t.if_of (p.clauses cs.clauses))))

abbrev pub case_of : Action
case_of = take top_clauses (λ cs. take top_operand (λ x. take top_at (λ q. made (max x.nest cs.nest) q q (t.case_of x.tree (p.clauses cs.clauses)))))

abbrev pub receive_of : Action
receive_of = take top_clauses (λ cs. take top_at (λ q. made cs.nest q q (t.receive_of (p.clauses cs.clauses))))

abbrev pub receive_after : Action
receive_after =
    take top_items (λ body. take top_operand (λ x. take top_clauses (λ cs. take top_at (λ q.
    made (max (max cs.nest x.nest) body.nest) q q (t.receive_after (p.clauses cs.clauses) x.tree (trees body.trees))))))

abbrev pub fun_named : Option Name → List ClauseTree → Shape
fun_named (Some n) cs = t.named_fun n (p.clauses cs)
fun_named None cs = t.fun_of (p.clauses cs)

-- a fun is named where its first clause is
abbrev pub fun_shape : Option Head → List ClauseTree → Shape
fun_shape (Some h) cs = fun_named h.name cs
fun_shape None cs = t.fun_of (p.clauses cs)

abbrev pub fun_of : Action
fun_of = take top_clauses (λ cs. take top_at (λ q. made cs.nest q q (fun_shape cs.first cs.clauses)))

-- `fun` has begun clauses before a name shows
abbrev pub fun_local : Action
fun_local =
    take top_leaf (λ a. take top_operator (λ o. take top_atom (λ n. take top_clauses (λ none. take top_at (λ q. given (number_in a.0) (λ i.
    made 0 q q (t.fun_local n.0 (arity_of i))))))))

-- the module is an atom or a variable
abbrev pub name_shape : Leaf → Option Shape
name_shape (atom n) = Some (t.atom n)
name_shape (var n) = Some (t.var n)
name_shape (any n) = Some t.any
name_shape _ = None

abbrev pub fun_remote : Action
fun_remote =
    take top_operand (λ a. take top_operator (λ o. take top_operand (λ f. take top_leaf (λ m. take top_clauses (λ none. take top_at (λ q. given (name_shape m.0) (λ e.
    made (max (max 1 f.nest) a.nest) q q (t.fun_remote (t.tree m.1 e) f.tree a.tree))))))))

-- ---- `try`

abbrev pub no_catches : Action
no_catches = put (catches (record { clauses = []; nest = 0 }))

abbrev pub unclassed : Action
unclassed = put (mark (record { place = None; class = class_is.LeftOut }))

abbrev pub class_of : Leaf → Option ClassPart
class_of (atom n) = Some (class_is.Atom n)
class_of (var n) = Some (class_is.Var n)
class_of (any n) = Some class_is.Any
class_of _ = None

abbrev pub class : Action
class = take top_leaf (λ l. given (class_of l.0) (λ k. put (mark (record { place = Some l.1; class = k }))))

abbrev pub place_or : Option Place → Place → Place
place_or (Some p) q = p
place_or None q = q

-- the pattern is read, and with it the stack trace
abbrev pub caught_pattern : Action
caught_pattern =
    take top_operand (λ x. take top_mark (λ m s.
    Some (record { values = caught (record { place = place_or m.place x.start; class = m.class; pattern = x.tree; trace = s.trace; nest = x.nest }) ∷ s.values; faults = s.faults; trace = None; deep = s.deep })))

abbrev pub catch_clause : Action
catch_clause =
    take top_items (λ body. take top_guard (λ g. take top_caught (λ c. take top_catches (λ cs.
    put (catches (record {
      clauses = cs.clauses ++ record { place = c.place; class = c.class; pattern = c.pattern; trace = c.trace; guard = g.tests; body = body.trees } ∷ [];
      nest = max cs.nest (max (max c.nest g.nest) body.nest);
    }))))))

-- no clauses are none that are written; so with the body of `after`
abbrev pub some_clauses : List ClauseTree → MaybeClauses
some_clauses [] = t.left_out
some_clauses (c ∷ cs) = t.these (p.clauses (c ∷ cs))

abbrev pub some_body : List Tree → MaybeTrees
some_body [] = t.absent
some_body (e ∷ es) = t.present (trees (e ∷ es))

abbrev pub try_of : Action
try_of =
    take top_items (λ after. take top_catches (λ ks. take top_clauses (λ cs. take top_items (λ body. take top_at (λ q.
    made (max (max body.nest cs.nest) (max ks.nest after.nest)) q q (t.try_of (trees body.trees) (some_clauses cs.clauses) (part.catches ks.clauses) (some_body after.trees)))))))

-- ---- `maybe`: a step with a pattern is one level for the steps behind it

abbrev pub no_steps : Action
no_steps = put (steps (record { steps = []; levels = 0; nest = 0 }))

abbrev pub step : Action
step =
    take top_operand (λ x. take top_steps (λ ss.
    put (steps (record { steps = ss.steps ++ record { pattern = None; value = x.tree } ∷ []; levels = ss.levels; nest = max ss.nest (deeper ss.levels x.nest) }))))

abbrev pub step_match : Action
step_match =
    take top_operand (λ e. take top_operand (λ p. take top_steps (λ ss.
    put (steps (record { steps = ss.steps ++ record { pattern = Some p.tree; value = e.tree } ∷ []; levels = deeper ss.levels 1; nest = max ss.nest (deeper ss.levels (max p.nest e.nest)) })))))

abbrev pub maybe_of : Action
maybe_of = take top_clauses (λ cs. take top_steps (λ ss. take top_at (λ q. made (max ss.nest cs.nest) q q (t.maybe (part.steps ss.steps) (some_clauses cs.clauses)))))

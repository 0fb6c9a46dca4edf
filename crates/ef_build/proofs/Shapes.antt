-- The shapes of nodes that hold lists of parts, for proofs that build them.
use Rattle.std.proofs.Common.{◌≡◌, ℕ, ℤ, List, sym, ap, ◌∙◌, Vec, Box, Option, Some, None, refl, map}
use Rattle.std.specs.declared.alloc.Global.{Global}
use Rattle.ef_base.specs.declared.name.Name.{Name}
use Rattle.ef_forms.specs.declared.expr.BinaryOp.{BinaryOp}
use Rattle.ef_forms.specs.declared.expr.Expr.{Expr}
use Rattle.ef_forms.specs.declared.expr.UnaryOp.{UnaryOp}
use Rattle.ef_forms.specs.declared.expr.Node.{Node, roll-Node}
use Rattle.ef_forms.specs.declared.expr.Node.TheVariants as node
use Rattle.ef_forms.specs.declared.expr.Node.TheOpen as layer
use Rattle.ef_forms.specs.declared.expr.Node.TheOpen.{Node-F}
use Rattle.ef_forms.specs.declared.expr.CatchClause.{CatchClause}
use Rattle.ef_forms.specs.declared.expr.Clause.{Clause}
use Rattle.ef_forms.specs.declared.expr.FieldSet.{FieldSet}
use Rattle.ef_forms.specs.declared.expr.MaybeStep.{MaybeStep}
use Rattle.ef_forms.specs.declared.expr.Qualifier.{Qualifier}
use Rattle.ef_forms.specs.declared.expr.Segment.{Segment}
use Rattle.ef_forms.specs.declared.expr.Node.TheFolds.{map-Node, fold-roll-Node}
use Rattle.ef_forms.specs.Tree as t
use Rattle.ef_forms.specs.Tree.{Tree, Shape, Catches, Segments, Fields, Steps, Qualifiers}
use Rattle.ef_forms.specs.Plain.{Before, ClauseTree, clauses, plain, plain_node, plain_all, plain_clause, plain_clauses, plain_catch, plain_catches, plain_segment, plain_segments, plain_field, plain_fields, plain_step, plain_steps, plain_qualifier, plain_qualifiers, plain_maybe_body, plain_maybe_clauses, shape_layer, qualifier_layer, catch_layer, clause_layer, tree_layer, field_layer, step_layer, segment_layer}
use Rattle.ef_forms.proofs.Plain.{folded_clause, clauses_are, plain_expr}
use Rattle.ef_build.specs.Parts as part
use Rattle.ef_build.specs.Parts.{catch_part, segment_part, field_part, step_part, qualifier_part}
use Rattle.ef_build.proofs.Parts.{catches_are, segments_are, fields_are, steps_are, qualifiers_are}

rolled : (l : Node-F Node Qualifier CatchClause Clause Expr FieldSet MaybeStep Segment) → plain_node (roll-Node l) ≡ shape_layer (map-Node Node Qualifier CatchClause Clause Expr FieldSet MaybeStep Segment Shape (Before Qualifiers) (Before Catches) ClauseTree Tree (Before Fields) (Before Steps) (Before Segments) plain_node plain_qualifier plain_catch folded_clause plain plain_field plain_step plain_segment l)
rolled l = fold-roll-Node Shape (Before Qualifiers) (Before Catches) ClauseTree Tree (Before Fields) (Before Steps) (Before Segments) shape_layer qualifier_layer catch_layer clause_layer tree_layer field_layer step_layer segment_layer l

pub an_int : (i : ℤ) → plain_node (node.Int i) ≡ t.int i
an_int i = ap plain_node (sym (node.rolls-Int i)) ∙ rolled (layer.Int i)

pub a_character : (c : ℕ) → plain_node (node.Char c) ≡ t.character c
a_character c = ap plain_node (sym (node.rolls-Char c)) ∙ rolled (layer.Char c)

pub a_string : (cs : List ℕ) → plain_node (node.Str cs) ≡ t.string cs
a_string cs = ap plain_node (sym (node.rolls-Str cs)) ∙ rolled (layer.Str cs)

pub an_atom : (n : Name) → plain_node (node.Atom n) ≡ t.atom n
an_atom n = ap plain_node (sym (node.rolls-Atom n)) ∙ rolled (layer.Atom n)

pub a_var : (n : Name) → plain_node (node.Var n) ≡ t.var n
a_var n = ap plain_node (sym (node.rolls-Var n)) ∙ rolled (layer.Var n)

pub a_tuple : (es : Vec Expr Global) → plain_node (node.Tuple es) ≡ t.tuple (plain_all es.items)
a_tuple es = ap plain_node (sym (node.rolls-Tuple es)) ∙ rolled (layer.Tuple es)

pub a_unary : (o : UnaryOp) (e : Box Expr Global) → plain_node (node.Unary o e) ≡ t.unary o (plain e.value)
a_unary o e = ap plain_node (sym (node.rolls-Unary o e)) ∙ rolled (layer.Unary o e)

pub an_operation : (o : BinaryOp) (l r : Box Expr Global) → plain_node (node.Binary o l r) ≡ t.operation o (plain l.value) (plain r.value)
an_operation o l r = ap plain_node (sym (node.rolls-Binary o l r)) ∙ rolled (layer.Binary o l r)

pub an_and_also : (l r : Box Expr Global) → plain_node (node.AndAlso l r) ≡ t.and_also (plain l.value) (plain r.value)
an_and_also l r = ap plain_node (sym (node.rolls-AndAlso l r)) ∙ rolled (layer.AndAlso l r)

pub an_or_else : (l r : Box Expr Global) → plain_node (node.OrElse l r) ≡ t.or_else (plain l.value) (plain r.value)
an_or_else l r = ap plain_node (sym (node.rolls-OrElse l r)) ∙ rolled (layer.OrElse l r)

pub a_match : (l r : Box Expr Global) → plain_node (node.Match l r) ≡ t.matching (plain l.value) (plain r.value)
a_match l r = ap plain_node (sym (node.rolls-Match l r)) ∙ rolled (layer.Match l r)

pub a_catch : (e : Box Expr Global) → plain_node (node.Catch e) ≡ t.catching (plain e.value)
a_catch e = ap plain_node (sym (node.rolls-Catch e)) ∙ rolled (layer.Catch e)

pub a_call : (f : Box Expr Global) (es : Vec Expr Global) → plain_node (node.Call f es) ≡ t.call (plain f.value) (plain_all es.items)
a_call f es = ap plain_node (sym (node.rolls-Call f es)) ∙ rolled (layer.Call f es)

pub a_remote : (m f : Box Expr Global) (es : Vec Expr Global) → plain_node (node.Remote m f es) ≡ t.remote (plain m.value) (plain f.value) (plain_all es.items)
a_remote m f es = ap plain_node (sym (node.rolls-Remote m f es)) ∙ rolled (layer.Remote m f es)

pub a_field : (e : Box Expr Global) (n f : Name) → plain_node (node.RecordField e n f) ≡ t.record_field (plain e.value) n f
a_field e n f = ap plain_node (sym (node.rolls-RecordField e n f)) ∙ rolled (layer.RecordField e n f)

pub an_index : (n f : Name) → plain_node (node.RecordIndex n f) ≡ t.record_index n f
an_index n f = ap plain_node (sym (node.rolls-RecordIndex n f)) ∙ rolled (layer.RecordIndex n f)

pub a_block : (es : Vec Expr Global) → plain_node (node.Block es) ≡ t.block (plain_all es.items)
a_block es = ap plain_node (sym (node.rolls-Block es)) ∙ rolled (layer.Block es)

pub a_local : (n : Name) (a : ℕ) → plain_node (node.FunLocal n a) ≡ t.fun_local n a
a_local n a = ap plain_node (sym (node.rolls-FunLocal n a)) ∙ rolled (layer.FunLocal n a)

pub a_fun_remote : (m f a : Box Expr Global) → plain_node (node.FunRemote m f a) ≡ t.fun_remote (plain m.value) (plain f.value) (plain a.value)
a_fun_remote m f a = ap plain_node (sym (node.rolls-FunRemote m f a)) ∙ rolled (layer.FunRemote m f a)

pub an_any : plain_node node.Any ≡ t.any
an_any = ap plain_node (sym node.rolls-Any) ∙ rolled layer.Any

pub a_list : (es : Vec Expr Global) → plain_node (node.List es None) ≡ t.list (plain_all es.items)
a_list es = ap plain_node (sym (node.rolls-List es None)) ∙ rolled (layer.List es None)

pub a_list_to : (es : Vec Expr Global) (e : Box Expr Global) → plain_node (node.List es (Some e)) ≡ t.list_to (plain_all es.items) (plain e.value)
a_list_to es e = ap plain_node (sym (node.rolls-List es (Some e))) ∙ rolled (layer.List es (Some e))

pub a_binary : (ss : Vec Segment Global) → plain_node (node.Bin ss) ≡ t.binary (part.segments (map segment_part ss.items))
a_binary ss = ap plain_node (sym (node.rolls-Bin ss)) ∙ rolled (layer.Bin ss) ∙ ap t.binary (segments_are ss.items)

pub a_record : (n : Name) (fs : Vec FieldSet Global) → plain_node (node.RecordNew n fs) ≡ t.record_new n (part.fields (map field_part fs.items))
a_record n fs = ap plain_node (sym (node.rolls-RecordNew n fs)) ∙ rolled (layer.RecordNew n fs) ∙ ap (t.record_new n) (fields_are fs.items)

pub an_update : (e : Box Expr Global) (n : Name) (fs : Vec FieldSet Global) → plain_node (node.RecordUpdate e n fs) ≡ t.record_update (plain e.value) n (part.fields (map field_part fs.items))
an_update e n fs = ap plain_node (sym (node.rolls-RecordUpdate e n fs)) ∙ rolled (layer.RecordUpdate e n fs) ∙ ap (t.record_update (plain e.value) n) (fields_are fs.items)

pub a_list_comp : (e : Box Expr Global) (qs : Vec Qualifier Global) → plain_node (node.ListComp e qs) ≡ t.list_comp (plain e.value) (part.qualifiers (map qualifier_part qs.items))
a_list_comp e qs = ap plain_node (sym (node.rolls-ListComp e qs)) ∙ rolled (layer.ListComp e qs) ∙ ap (t.list_comp (plain e.value)) (qualifiers_are qs.items)

pub a_bin_comp : (e : Box Expr Global) (qs : Vec Qualifier Global) → plain_node (node.BinComp e qs) ≡ t.bin_comp (plain e.value) (part.qualifiers (map qualifier_part qs.items))
a_bin_comp e qs = ap plain_node (sym (node.rolls-BinComp e qs)) ∙ rolled (layer.BinComp e qs) ∙ ap (t.bin_comp (plain e.value)) (qualifiers_are qs.items)

pub an_if : (cs : Vec Clause Global) → plain_node (node.If cs) ≡ t.if_of (plain_clauses cs.items)
an_if cs = ap plain_node (sym (node.rolls-If cs)) ∙ rolled (layer.If cs) ∙ ap (λ ks. t.if_of (clauses ks)) (clauses_are cs.items)

pub a_case : (e : Box Expr Global) (cs : Vec Clause Global) → plain_node (node.Case e cs) ≡ t.case_of (plain e.value) (plain_clauses cs.items)
a_case e cs = ap plain_node (sym (node.rolls-Case e cs)) ∙ rolled (layer.Case e cs) ∙ ap (λ ks. t.case_of (plain e.value) (clauses ks)) (clauses_are cs.items)

pub a_receive : (cs : Vec Clause Global) → plain_node (node.Receive cs None) ≡ t.receive_of (plain_clauses cs.items)
a_receive cs = ap plain_node (sym (node.rolls-Receive cs None)) ∙ rolled (layer.Receive cs None) ∙ ap (λ ks. t.receive_of (clauses ks)) (clauses_are cs.items)

pub a_timeout : (cs : Vec Clause Global) (b : Box (Expr × Vec Expr Global) Global) → plain_node (node.Receive cs (Some b)) ≡ t.receive_after (plain_clauses cs.items) (plain b.value.0) (plain_all b.value.1.items)
a_timeout cs b = ap plain_node (sym (node.rolls-Receive cs (Some b))) ∙ rolled (layer.Receive cs (Some b)) ∙ ap (λ ks. t.receive_after (clauses ks) (plain b.value.0) (plain_all b.value.1.items)) (clauses_are cs.items)

pub a_fun : (cs : Vec Clause Global) → plain_node (node.Fun cs) ≡ t.fun_of (plain_clauses cs.items)
a_fun cs = ap plain_node (sym (node.rolls-Fun cs)) ∙ rolled (layer.Fun cs) ∙ ap (λ ks. t.fun_of (clauses ks)) (clauses_are cs.items)

pub a_named_fun : (n : Name) (cs : Vec Clause Global) → plain_node (node.NamedFun n cs) ≡ t.named_fun n (plain_clauses cs.items)
a_named_fun n cs = ap plain_node (sym (node.rolls-NamedFun n cs)) ∙ rolled (layer.NamedFun n cs) ∙ ap (λ ks. t.named_fun n (clauses ks)) (clauses_are cs.items)

pub a_try : (es : Vec Expr Global) (of : Option (Vec Clause Global)) (ks : Vec CatchClause Global) (after : Option (Vec Expr Global))
    → plain_node (node.Try es of ks after) ≡ t.try_of (plain_all es.items) (plain_maybe_clauses of) (part.catches (map catch_part ks.items)) (plain_maybe_body after)
a_try es None ks None = ap plain_node (sym (node.rolls-Try es None ks None)) ∙ rolled (layer.Try es None ks None) ∙ rw (catches_are ks.items) refl
a_try es None ks (Some b) = ap plain_node (sym (node.rolls-Try es None ks (Some b))) ∙ rolled (layer.Try es None ks (Some b)) ∙ rw (catches_are ks.items) refl
a_try es (Some cs) ks None = ap plain_node (sym (node.rolls-Try es (Some cs) ks None)) ∙ rolled (layer.Try es (Some cs) ks None) ∙ rw (catches_are ks.items, clauses_are cs.items) refl
a_try es (Some cs) ks (Some b) = ap plain_node (sym (node.rolls-Try es (Some cs) ks (Some b))) ∙ rolled (layer.Try es (Some cs) ks (Some b)) ∙ rw (catches_are ks.items, clauses_are cs.items) refl

pub a_maybe : (ss : Vec MaybeStep Global) (of : Option (Vec Clause Global)) → plain_node (node.Maybe ss of) ≡ t.maybe (part.steps (map step_part ss.items)) (plain_maybe_clauses of)
a_maybe ss None = ap plain_node (sym (node.rolls-Maybe ss None)) ∙ rolled (layer.Maybe ss None) ∙ rw (steps_are ss.items) refl
a_maybe ss (Some cs) = ap plain_node (sym (node.rolls-Maybe ss (Some cs))) ∙ rolled (layer.Maybe ss (Some cs)) ∙ rw (steps_are ss.items, clauses_are cs.items) refl

pub ruleset laws = (plain_expr, an_int, a_character, a_string, an_atom, a_var, a_tuple, a_unary, an_operation, an_and_also, an_or_else, a_match, a_catch, a_call, a_remote, a_field, an_index, a_block, a_local, a_fun_remote, an_any, a_list, a_list_to, a_binary, a_record, an_update, a_list_comp, a_bin_comp, an_if, a_case, a_receive, a_timeout, a_fun, a_named_fun, a_try, a_maybe)

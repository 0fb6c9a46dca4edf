-- A tree whose node is opened: what each variant stands for, with its parts as `plain` has them.
use Rattle.std.proofs.Common.{◌≡◌, refl, ap, ◌∙◌, Some, None}
use Rattle.ef_forms.specs.declared.expr.Expr.{Expr}
use Rattle.ef_forms.specs.declared.expr.Node.{Node, out-Node, the_lemmas}
use Rattle.ef_forms.specs.declared.expr.Node.TheOpen as layer
use Rattle.ef_forms.specs.declared.expr.Node.TheOpen.{Node-F}
use Rattle.ef_forms.specs.declared.expr.CatchClause.{CatchClause}
use Rattle.ef_forms.specs.declared.expr.Clause.{Clause}
use Rattle.ef_forms.specs.declared.expr.FieldSet.{FieldSet}
use Rattle.ef_forms.specs.declared.expr.MaybeStep.{MaybeStep}
use Rattle.ef_forms.specs.declared.expr.Qualifier.{Qualifier}
use Rattle.ef_forms.specs.declared.expr.Segment.{Segment}
use Rattle.ef_forms.specs.declared.expr.Node.TheFolds.{map-Node}
use Rattle.ef_forms.specs.Tree as t
use Rattle.ef_forms.specs.Tree.{Tree, Shape, Catches, Segments, Fields, Steps, Qualifiers, tree}
use Rattle.ef_forms.specs.Plain.{Before, ClauseTree, clauses, plain, plain_node, plain_all, plain_clauses, plain_catch, plain_catches, plain_segment, plain_field, plain_step, plain_steps, plain_qualifier, plain_maybe_body, plain_maybe_clauses, shape_layer}
use Rattle.ef_forms.proofs.Plain.{folded_clause, opened, clauses_are, plain_one_catch, plain_one_segment, plain_one_step, plain_one_field, plain_list_from, plain_bits_from, plain_filter}

abbrev pub mapped : Node-F Node Qualifier CatchClause Clause Expr FieldSet MaybeStep Segment → Shape
mapped l = shape_layer (map-Node Node Qualifier CatchClause Clause Expr FieldSet MaybeStep Segment Shape (Before Qualifiers) (Before Catches) ClauseTree Tree (Before Fields) (Before Steps) (Before Segments) plain_node plain_qualifier plain_catch folded_clause plain plain_field plain_step plain_segment l)

abbrev pub shape_of : Node-F Node Qualifier CatchClause Clause Expr FieldSet MaybeStep Segment → Shape
shape_of (layer.Call f es) = t.call (plain f.value) (plain_all es.items)
shape_of (layer.Remote m f es) = t.remote (plain m.value) (plain f.value) (plain_all es.items)
shape_of (layer.If cs) = t.if_of (plain_clauses cs.items)
shape_of (layer.Case e cs) = t.case_of (plain e.value) (plain_clauses cs.items)
shape_of (layer.Receive cs None) = t.receive_of (plain_clauses cs.items)
shape_of (layer.Receive cs (Some b)) = t.receive_after (plain_clauses cs.items) (plain b.value.0) (plain_all b.value.1.items)
shape_of (layer.Try es of ks after) = t.try_of (plain_all es.items) (plain_maybe_clauses of) (plain_catches ks.items) (plain_maybe_body after)
shape_of (layer.Maybe ss others) = t.maybe (plain_steps ss.items) (plain_maybe_clauses others)
shape_of (layer.Fun cs) = t.fun_of (plain_clauses cs.items)
shape_of (layer.NamedFun n cs) = t.named_fun n (plain_clauses cs.items)
shape_of l = mapped l

shaped : (l : Node-F Node Qualifier CatchClause Clause Expr FieldSet MaybeStep Segment) → mapped l ≡ shape_of l
shaped (layer.If cs) = ap (λ l. t.if_of (clauses l)) (clauses_are cs.items)
shaped (layer.Case e cs) = ap (λ l. t.case_of (plain e.value) (clauses l)) (clauses_are cs.items)
shaped (layer.Receive cs None) = ap (λ l. t.receive_of (clauses l)) (clauses_are cs.items)
shaped (layer.Receive cs (Some b)) = ap (λ l. t.receive_after (clauses l) (plain b.value.0) (plain_all b.value.1.items)) (clauses_are cs.items)
shaped (layer.Try es None ks None) = refl
shaped (layer.Try es None ks (Some bs)) = refl
shaped (layer.Try es (Some cs) ks None) = ap (λ l. t.try_of (plain_all es.items) (t.these (clauses l)) (plain_catches ks.items) t.absent) (clauses_are cs.items)
shaped (layer.Try es (Some cs) ks (Some bs)) = ap (λ l. t.try_of (plain_all es.items) (t.these (clauses l)) (plain_catches ks.items) (t.present (plain_all bs.items))) (clauses_are cs.items)
shaped (layer.Maybe ss None) = refl
shaped (layer.Maybe ss (Some cs)) = ap (λ l. t.maybe (plain_steps ss.items) (t.these (clauses l))) (clauses_are cs.items)
shaped (layer.Fun cs) = ap (λ l. t.fun_of (clauses l)) (clauses_are cs.items)
shaped (layer.NamedFun n cs) = ap (λ l. t.named_fun n (clauses l)) (clauses_are cs.items)
shaped l = refl

pub opened_shape : (e : Expr) → plain e ≡ tree e.place (shape_of (out-Node e.node))
opened_shape e = opened e ∙ ap (tree e.place) (shaped (out-Node e.node))

-- for walks over all variants
pub ruleset laws = (opened_shape, the_lemmas, plain_one_catch, plain_one_segment, plain_one_step, plain_one_field, plain_list_from, plain_bits_from, plain_filter)

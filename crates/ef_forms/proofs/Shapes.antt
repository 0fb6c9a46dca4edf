-- The shapes of nodes of the kinds that are built: for proofs that name the variant.
use Rattle.std.proofs.Common.{◌≡◌, ℤ, sym, ap, ◌∙◌, subst, Vec, Box, Option, Some, None}
use Rattle.std.specs.declared.alloc.Global.{Global}
use Rattle.ef_base.specs.declared.name.Name.{Name}
use Rattle.ef_forms.specs.declared.expr.Expr.{Expr}
use Rattle.ef_forms.specs.declared.expr.Node.{Node, out-Node, roll-Node, roll-out-Node}
use Rattle.ef_forms.specs.declared.expr.Node.TheVariants as node
use Rattle.ef_forms.specs.declared.expr.Node.TheOpen as layer
use Rattle.ef_forms.specs.declared.expr.Node.TheOpen.{Node-F}
use Rattle.ef_forms.specs.declared.expr.CatchClause.{CatchClause}
use Rattle.ef_forms.specs.declared.expr.Clause.{Clause}
use Rattle.ef_forms.specs.declared.expr.FieldSet.{FieldSet}
use Rattle.ef_forms.specs.declared.expr.MaybeStep.{MaybeStep}
use Rattle.ef_forms.specs.declared.expr.Qualifier.{Qualifier}
use Rattle.ef_forms.specs.declared.expr.Segment.{Segment}
use Rattle.ef_forms.specs.declared.expr.Node.TheFolds.{map-Node, fold-roll-Node}
use Rattle.ef_forms.specs.Tree.{Tree, Shape, Catches, Segments, Fields, Steps, Qualifiers, int, atom, var, any, list, list_to, tuple, matching, call, remote, case_of}
use Rattle.ef_forms.specs.Plain.{Before, ClauseTree, clauses, plain, plain_node, plain_all, plain_clauses, plain_catch, plain_segment, plain_field, plain_step, plain_qualifier, shape_layer, qualifier_layer, catch_layer, clause_layer, tree_layer, field_layer, step_layer, segment_layer}
use Rattle.ef_forms.proofs.Plain.{folded_clause, clauses_are}

rolled : (l : Node-F Node Qualifier CatchClause Clause Expr FieldSet MaybeStep Segment) → plain_node (roll-Node l) ≡ shape_layer (map-Node Node Qualifier CatchClause Clause Expr FieldSet MaybeStep Segment Shape (Before Qualifiers) (Before Catches) ClauseTree Tree (Before Fields) (Before Steps) (Before Segments) plain_node plain_qualifier plain_catch folded_clause plain plain_field plain_step plain_segment l)
rolled l = fold-roll-Node Shape (Before Qualifiers) (Before Catches) ClauseTree Tree (Before Fields) (Before Steps) (Before Segments) shape_layer qualifier_layer catch_layer clause_layer tree_layer field_layer step_layer segment_layer l

pub plain_int : (i : ℤ) → plain_node (node.Int i) ≡ int i
plain_int i = ap plain_node (sym (node.rolls-Int i)) ∙ rolled (layer.Int i)

pub plain_atom : (n : Name) → plain_node (node.Atom n) ≡ atom n
plain_atom n = ap plain_node (sym (node.rolls-Atom n)) ∙ rolled (layer.Atom n)

pub plain_var : (n : Name) → plain_node (node.Var n) ≡ var n
plain_var n = ap plain_node (sym (node.rolls-Var n)) ∙ rolled (layer.Var n)

pub plain_any : plain_node node.Any ≡ any
plain_any = ap plain_node (sym node.rolls-Any) ∙ rolled layer.Any

pub plain_list : (es : Vec Expr Global) → plain_node (node.List es None) ≡ list (plain_all es.items)
plain_list es = ap plain_node (sym (node.rolls-List es None)) ∙ rolled (layer.List es None)

pub plain_list_to : (es : Vec Expr Global) (e : Box Expr Global) → plain_node (node.List es (Some e)) ≡ list_to (plain_all es.items) (plain e.value)
plain_list_to es e = ap plain_node (sym (node.rolls-List es (Some e))) ∙ rolled (layer.List es (Some e))

pub plain_tuple : (es : Vec Expr Global) → plain_node (node.Tuple es) ≡ tuple (plain_all es.items)
plain_tuple es = ap plain_node (sym (node.rolls-Tuple es)) ∙ rolled (layer.Tuple es)

pub plain_match : (p e : Box Expr Global) → plain_node (node.Match p e) ≡ matching (plain p.value) (plain e.value)
plain_match p e = ap plain_node (sym (node.rolls-Match p e)) ∙ rolled (layer.Match p e)

pub plain_call : (f : Box Expr Global) (es : Vec Expr Global) → plain_node (node.Call f es) ≡ call (plain f.value) (plain_all es.items)
plain_call f es = ap plain_node (sym (node.rolls-Call f es)) ∙ rolled (layer.Call f es)

pub plain_remote : (m f : Box Expr Global) (es : Vec Expr Global) → plain_node (node.Remote m f es) ≡ remote (plain m.value) (plain f.value) (plain_all es.items)
plain_remote m f es = ap plain_node (sym (node.rolls-Remote m f es)) ∙ rolled (layer.Remote m f es)

pub plain_case : (e : Box Expr Global) (cs : Vec Clause Global) → plain_node (node.Case e cs) ≡ case_of (plain e.value) (plain_clauses cs.items)
plain_case e cs = ap plain_node (sym (node.rolls-Case e cs)) ∙ rolled (layer.Case e cs) ∙ ap (λ ks. case_of (plain e.value) (clauses ks)) (clauses_are cs.items)

-- ---- a node of none of these kinds has a shape of none of them

abbrev pub IsOther : Shape → Type 0
IsOther (int i) = ⊥
IsOther (atom n) = ⊥
IsOther (var n) = ⊥
IsOther any = ⊥
IsOther (list es) = ⊥
IsOther (list_to es e) = ⊥
IsOther (tuple es) = ⊥
IsOther (matching p e) = ⊥
IsOther (call f es) = ⊥
IsOther (remote m f es) = ⊥
IsOther (case_of e cs) = ⊥
IsOther _ = Unit {0}

module _
    (n : Node)
    (no_int : (i : ℤ) → n ≡ node.Int i → ⊥)
    (no_atom : (a : Name) → n ≡ node.Atom a → ⊥)
    (no_var : (v : Name) → n ≡ node.Var v → ⊥)
    (no_any : n ≡ node.Any → ⊥)
    (no_list : (es : Vec Expr Global) (e : Option (Box Expr Global)) → n ≡ node.List es e → ⊥)
    (no_tuple : (es : Vec Expr Global) → n ≡ node.Tuple es → ⊥)
    (no_match : (p e : Box Expr Global) → n ≡ node.Match p e → ⊥)
    (no_call : (f : Box Expr Global) (es : Vec Expr Global) → n ≡ node.Call f es → ⊥)
    (no_remote : (m f : Box Expr Global) (es : Vec Expr Global) → n ≡ node.Remote m f es → ⊥)
    (no_case : (e : Box Expr Global) (cs : Vec Clause Global) → n ≡ node.Case e cs → ⊥)
  where
    by_layer : (l : Node-F Node Qualifier CatchClause Clause Expr FieldSet MaybeStep Segment) → n ≡ roll-Node l → IsOther (shape_layer (map-Node Node Qualifier CatchClause Clause Expr FieldSet MaybeStep Segment Shape (Before Qualifiers) (Before Catches) ClauseTree Tree (Before Fields) (Before Steps) (Before Segments) plain_node plain_qualifier plain_catch folded_clause plain plain_field plain_step plain_segment l))
    by_layer (layer.Int i) is = absurd (no_int i (is ∙ node.rolls-Int i))
    by_layer (layer.Atom a) is = absurd (no_atom a (is ∙ node.rolls-Atom a))
    by_layer (layer.Var v) is = absurd (no_var v (is ∙ node.rolls-Var v))
    by_layer layer.Any is = absurd (no_any (is ∙ node.rolls-Any))
    by_layer (layer.List es e) is = absurd (no_list es e (is ∙ node.rolls-List es e))
    by_layer (layer.Tuple es) is = absurd (no_tuple es (is ∙ node.rolls-Tuple es))
    by_layer (layer.Match p e) is = absurd (no_match p e (is ∙ node.rolls-Match p e))
    by_layer (layer.Call f es) is = absurd (no_call f es (is ∙ node.rolls-Call f es))
    by_layer (layer.Remote m f es) is = absurd (no_remote m f es (is ∙ node.rolls-Remote m f es))
    by_layer (layer.Case e cs) is = absurd (no_case e cs (is ∙ node.rolls-Case e cs))
    by_layer (layer.Receive cs None) is = tt
    by_layer (layer.Receive cs (Some after)) is = tt
    by_layer _ is = tt

    pub other_shape : IsOther (plain_node n)
    other_shape = subst IsOther (sym (rolled (out-Node n)) ∙ ap plain_node (roll-out-Node n)) (by_layer (out-Node n) (sym (roll-out-Node n)))

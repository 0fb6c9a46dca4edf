-- The equations of `plain`.
use Rattle.std.proofs.Common.{◌≡◌, List, [], ◌∷◌, refl, sym, ap, ◌∙◌, Bool, Option, Some, None, length, map, arith}
use Rattle.std.specs.Option.{option_map}
use Rattle.std.proofs.lemmas.Simd.{map-map}
use Rattle.ef_forms.specs.declared.expr.Expr.{Expr}
use Rattle.ef_forms.specs.declared.expr.Node.{Node, out-Node, the_lemmas}
use Rattle.ef_forms.specs.declared.expr.Node.TheOpen as layer
use Rattle.ef_forms.specs.declared.expr.Node.TheOpen.{Qualifier-F}
use Rattle.ef_forms.specs.declared.expr.CatchClause.{CatchClause, out-CatchClause}
use Rattle.ef_forms.specs.declared.expr.Clause.{Clause, out-Clause}
use Rattle.ef_forms.specs.declared.expr.FieldSet.{FieldSet, out-FieldSet}
use Rattle.ef_forms.specs.declared.expr.MaybeStep.{MaybeStep, out-MaybeStep}
use Rattle.ef_forms.specs.declared.expr.Qualifier.{Qualifier, roll-Qualifier}
use Rattle.ef_forms.specs.declared.expr.Qualifier.TheVariants as qualifier
use Rattle.ef_forms.specs.declared.expr.Segment.{Segment, out-Segment}
use Rattle.ef_forms.specs.declared.expr.Node.TheShapes.{former-MaybeStep-pattern}
use Rattle.ef_forms.specs.declared.expr.Node.TheFolds.{map-Node, map-Qualifier, fold-Clause, fold_out-Node, fold-roll-Qualifier, fold_out-CatchClause, fold_out-Clause, fold_out-Expr, fold_out-FieldSet, fold_out-MaybeStep, fold_out-Segment}
use Rattle.ef_forms.specs.Tree.{Tree, Shape, Catches, Segments, Fields, Steps, Qualifiers, tree, catches, field, list_from, bits_from, filter, count}
use Rattle.ef_forms.specs.Plain.{Before, ClauseTree, guards, plain, plain_node, plain_all, plain_guard, plain_clause, plain_catch, plain_segment, plain_field, plain_step, plain_qualifier, shape_layer, qualifier_layer, catch_layer, clause_layer, tree_layer, field_layer, step_layer, segment_layer, segment_of, step_of}

abbrev pub folded_clause : Clause → ClauseTree
folded_clause = fold-Clause Shape (Before Qualifiers) (Before Catches) ClauseTree Tree (Before Fields) (Before Steps) (Before Segments) shape_layer qualifier_layer catch_layer clause_layer tree_layer field_layer step_layer segment_layer

rolled_qualifier : (l : Qualifier-F Node Qualifier CatchClause Clause Expr FieldSet MaybeStep Segment) → plain_qualifier (roll-Qualifier l) ≡ qualifier_layer (map-Qualifier Node Qualifier CatchClause Clause Expr FieldSet MaybeStep Segment Shape (Before Qualifiers) (Before Catches) ClauseTree Tree (Before Fields) (Before Steps) (Before Segments) plain_node plain_qualifier plain_catch folded_clause plain plain_field plain_step plain_segment l)
rolled_qualifier l = fold-roll-Qualifier Shape (Before Qualifiers) (Before Catches) ClauseTree Tree (Before Fields) (Before Steps) (Before Segments) shape_layer qualifier_layer catch_layer clause_layer tree_layer field_layer step_layer segment_layer l

pub plain_expr : (e : Expr) → plain e ≡ tree e.place (plain_node e.node)
plain_expr e = fold_out-Expr Shape (Before Qualifiers) (Before Catches) ClauseTree Tree (Before Fields) (Before Steps) (Before Segments) shape_layer qualifier_layer catch_layer clause_layer tree_layer field_layer step_layer segment_layer e

-- at a node that is opened: one equation for all variants
pub opened : (e : Expr) → plain e ≡ tree e.place (shape_layer (map-Node Node Qualifier CatchClause Clause Expr FieldSet MaybeStep Segment Shape (Before Qualifiers) (Before Catches) ClauseTree Tree (Before Fields) (Before Steps) (Before Segments) plain_node plain_qualifier plain_catch folded_clause plain plain_field plain_step plain_segment (out-Node e.node)))
opened e = plain_expr e ∙ ap (tree e.place) (fold_out-Node Shape (Before Qualifiers) (Before Catches) ClauseTree Tree (Before Fields) (Before Steps) (Before Segments) shape_layer qualifier_layer catch_layer clause_layer tree_layer field_layer step_layer segment_layer e.node)

-- a clause as the fold has it is the clause whose guard is mapped at once
pub clause_is : (c : Clause) → folded_clause c ≡ plain_clause c
clause_is c =
    fold_out-Clause Shape (Before Qualifiers) (Before Catches) ClauseTree Tree (Before Fields) (Before Steps) (Before Segments) shape_layer qualifier_layer catch_layer clause_layer tree_layer field_layer step_layer segment_layer c
    ∙ ap (λ gs. record { place = (out-Clause c).place; patterns = map plain (out-Clause c).patterns.items; guard = gs; body = map plain (out-Clause c).body.items }) (map-map _ _ (out-Clause c).guard.items)

map_same : {A B : Type 0} (f g : A → B) → ((x : A) → f x ≡ g x) → (xs : List A) → map f xs ≡ map g xs
map_same f g same [] = refl
map_same f g same (x ∷ xs) = rw (same x, map_same f g same xs) refl

pub clauses_are : (cs : List Clause) → map folded_clause cs ≡ map plain_clause cs
clauses_are cs = map_same folded_clause plain_clause clause_is cs

pub plain_one_catch : (c : CatchClause) (cs : Catches) → plain_catch c cs ≡ catches (out-CatchClause c).place (out-CatchClause c).class (plain (out-CatchClause c).pattern) (out-CatchClause c).trace (plain_guard (out-CatchClause c).guard.items) (plain_all (out-CatchClause c).body.items) cs
plain_one_catch c cs =
    ap (λ f. f cs) (fold_out-CatchClause Shape (Before Qualifiers) (Before Catches) ClauseTree Tree (Before Fields) (Before Steps) (Before Segments) shape_layer qualifier_layer catch_layer clause_layer tree_layer field_layer step_layer segment_layer c)
    ∙ ap (λ gs. catches (out-CatchClause c).place (out-CatchClause c).class (plain (out-CatchClause c).pattern) (out-CatchClause c).trace (guards gs) (plain_all (out-CatchClause c).body.items) cs) (map-map _ _ (out-CatchClause c).guard.items)

mapped_pattern : (o : Option Expr) → former-MaybeStep-pattern.map Expr Tree plain o ≡ option_map plain o
mapped_pattern None = refl
mapped_pattern (Some e) = refl

pub plain_one_segment : (s : Segment) (ss : Segments) → plain_segment s ss ≡ segment_of (out-Segment s).place (plain (out-Segment s).value) (option_map plain (out-Segment s).size) (out-Segment s).types.items ss
plain_one_segment s ss =
    ap (λ f. f ss) (fold_out-Segment Shape (Before Qualifiers) (Before Catches) ClauseTree Tree (Before Fields) (Before Steps) (Before Segments) shape_layer qualifier_layer catch_layer clause_layer tree_layer field_layer step_layer segment_layer s)
    ∙ ap (λ o. segment_of (out-Segment s).place (plain (out-Segment s).value) o (out-Segment s).types.items ss) (mapped_pattern (out-Segment s).size)

pub plain_one_step : (s : MaybeStep) (ss : Steps) → plain_step s ss ≡ step_of (option_map plain (out-MaybeStep s).pattern) (plain (out-MaybeStep s).value) ss
plain_one_step s ss =
    ap (λ f. f ss) (fold_out-MaybeStep Shape (Before Qualifiers) (Before Catches) ClauseTree Tree (Before Fields) (Before Steps) (Before Segments) shape_layer qualifier_layer catch_layer clause_layer tree_layer field_layer step_layer segment_layer s)
    ∙ ap (λ o. step_of o (plain (out-MaybeStep s).value) ss) (mapped_pattern (out-MaybeStep s).pattern)

pub plain_one_field : (f : FieldSet) (fs : Fields) → plain_field f fs ≡ field (out-FieldSet f).place (out-FieldSet f).field (plain (out-FieldSet f).value) fs
plain_one_field f fs = ap (λ g. g fs) (fold_out-FieldSet Shape (Before Qualifiers) (Before Catches) ClauseTree Tree (Before Fields) (Before Steps) (Before Segments) shape_layer qualifier_layer catch_layer clause_layer tree_layer field_layer step_layer segment_layer f)

pub plain_list_from : (p e : Expr) (b : Bool) (qs : Qualifiers) → plain_qualifier (qualifier.ListFrom p e b) qs ≡ list_from (plain p) (plain e) b qs
plain_list_from p e b qs = ap (λ q. plain_qualifier q qs) (sym (qualifier.rolls-ListFrom p e b)) ∙ ap (λ f. f qs) (rolled_qualifier (layer.ListFrom p e b))

pub plain_bits_from : (p e : Expr) (b : Bool) (qs : Qualifiers) → plain_qualifier (qualifier.BitsFrom p e b) qs ≡ bits_from (plain p) (plain e) b qs
plain_bits_from p e b qs = ap (λ q. plain_qualifier q qs) (sym (qualifier.rolls-BitsFrom p e b)) ∙ ap (λ f. f qs) (rolled_qualifier (layer.BitsFrom p e b))

pub plain_filter : (e : Expr) (qs : Qualifiers) → plain_qualifier (qualifier.Filter e) qs ≡ filter (plain e) qs
plain_filter e qs = ap (λ q. plain_qualifier q qs) (sym (qualifier.rolls-Filter e)) ∙ ap (λ f. f qs) (rolled_qualifier (layer.Filter e))

pub ruleset laws = (opened, the_lemmas, clauses_are, plain_one_catch, plain_one_segment, plain_one_step, plain_one_field, plain_list_from, plain_bits_from, plain_filter)

pub counted : (es : List Expr) → count (plain_all es) ≡ length es
counted [] = refl
counted (e ∷ es) = let rest : count (plain_all es) ≡ length es = counted es in omega arith

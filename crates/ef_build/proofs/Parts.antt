-- Parts of trees that are built one by one.
use Rattle.std.proofs.Common.{◌≡◌, List, [], ◌∷◌, Bool, Option, Some, None, refl, sym, ap, ◌∙◌, map}
use Rattle.std.specs.Option.{option_map}
use Rattle.ef_forms.specs.declared.expr.CatchClause.{CatchClause, out-CatchClause}
use Rattle.ef_forms.specs.declared.expr.Expr.{Expr}
use Rattle.ef_forms.specs.declared.expr.FieldSet.{FieldSet, out-FieldSet}
use Rattle.ef_forms.specs.declared.expr.MaybeStep.{MaybeStep, out-MaybeStep}
use Rattle.ef_forms.specs.declared.expr.Clause.{Clause}
use Rattle.ef_forms.specs.declared.expr.Node.{Node, the_lemmas}
use Rattle.ef_forms.specs.declared.expr.Node.TheFolds.{map-Qualifier, fold_out-Qualifier}
use Rattle.ef_forms.specs.declared.expr.Node.TheOpen as layer
use Rattle.ef_forms.specs.declared.expr.Node.TheOpen.{Qualifier-F}
use Rattle.ef_forms.specs.declared.expr.Qualifier.{Qualifier, out-Qualifier}
use Rattle.ef_forms.specs.declared.expr.Qualifier.TheVariants as qualifier
use Rattle.ef_forms.specs.declared.expr.Segment.{Segment, out-Segment}
use Rattle.ef_forms.specs.Plain as p
use Rattle.ef_forms.specs.Plain.{Before, ClauseTree, plain, plain_node, plain_catch, plain_catches, plain_field, plain_fields, plain_qualifier, plain_qualifiers, plain_segment, plain_segments, plain_step, plain_steps, shape_layer, catch_layer, clause_layer, tree_layer, field_layer, step_layer, segment_layer}
use Rattle.ef_forms.specs.Tree.{Tree, Shape, Catches, Segments, Fields, Steps, Qualifiers}
use Rattle.ef_forms.proofs.Plain.{folded_clause, plain_one_catch, plain_one_field, plain_one_segment, plain_one_step, plain_list_from, plain_bits_from, plain_filter}
use Rattle.ef_build.specs.Parts.{from_list, from_bits, test, catches, segments, fields, steps, qualified, qualifiers, qualifier_layer, catch_part, segment_part, field_part, step_part, qualifier_part}

pub catches_are : (cs : List CatchClause) → plain_catches cs ≡ catches (map catch_part cs)
catches_are [] = refl
catches_are (c ∷ cs) = rw (plain_one_catch c (plain_catches cs), catches_are cs) refl

pub segments_are : (ss : List Segment) → plain_segments ss ≡ segments (map segment_part ss)
segments_are [] = refl
segments_are (s ∷ ss) = rw (plain_one_segment s (plain_segments ss), segments_are ss) refl

pub fields_are : (fs : List FieldSet) → plain_fields fs ≡ fields (map field_part fs)
fields_are [] = refl
fields_are (f ∷ fs) = rw (plain_one_field f (plain_fields fs), fields_are fs) refl

pub steps_are : (ss : List MaybeStep) → plain_steps ss ≡ steps (map step_part ss)
steps_are [] = refl
steps_are (s ∷ ss) = rw (plain_one_step s (plain_steps ss), steps_are ss) refl

pub a_list_from : (p e : Expr) (b : Bool) → qualifier_part (qualifier.ListFrom p e b) ≡ from_list (plain p) (plain e) b
a_list_from p e b = simp (the_lemmas)

pub a_bits_from : (p e : Expr) (b : Bool) → qualifier_part (qualifier.BitsFrom p e b) ≡ from_bits (plain p) (plain e) b
a_bits_from p e b = simp (the_lemmas)

pub a_filter : (e : Expr) → qualifier_part (qualifier.Filter e) ≡ test (plain e)
a_filter e = simp (the_lemmas)

one_layer : (l : Qualifier-F Node Qualifier CatchClause Clause Expr FieldSet MaybeStep Segment) (rest : Qualifiers) → p.qualifier_layer (map-Qualifier Node Qualifier CatchClause Clause Expr FieldSet MaybeStep Segment Shape (Before Qualifiers) (Before Catches) ClauseTree Tree (Before Fields) (Before Steps) (Before Segments) plain_node plain_qualifier plain_catch folded_clause plain plain_field plain_step plain_segment l) rest ≡ qualified (qualifier_layer l) rest
one_layer (layer.ListFrom p e b) rest = refl
one_layer (layer.BitsFrom p e b) rest = refl
one_layer (layer.Filter e) rest = refl

one_qualifier : (q : Qualifier) (rest : Qualifiers) → plain_qualifier q rest ≡ qualified (qualifier_part q) rest
one_qualifier q rest =
    ap (λ f. f rest) (fold_out-Qualifier Shape (Before Qualifiers) (Before Catches) ClauseTree Tree (Before Fields) (Before Steps) (Before Segments) shape_layer p.qualifier_layer catch_layer clause_layer tree_layer field_layer step_layer segment_layer q)
    ∙ one_layer (out-Qualifier q) rest

pub qualifiers_are : (qs : List Qualifier) → plain_qualifiers qs ≡ qualifiers (map qualifier_part qs)
qualifiers_are [] = refl
qualifiers_are (q ∷ qs) = one_qualifier q (plain_qualifiers qs) ∙ ap (qualified (qualifier_part q)) (qualifiers_are qs)

pub ruleset laws = (catches_are, segments_are, fields_are, steps_are, qualifiers_are, a_list_from, a_bits_from, a_filter)

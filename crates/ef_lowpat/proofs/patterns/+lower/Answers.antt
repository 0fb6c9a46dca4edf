use Rattle.std.proofs.Common.{◌≡◌, ◌∙◌, ◌+◌, ◌++◌, sym, ap, subst, refl, arith, rules, map}
use Rattle.std.proofs.lemmas.List.{map-append}
use Rattle.std.proofs.Math.Facts.{to_z-of_z}
use mir.Syntax.{w128}
use mir.Val.{SFits}
use Rattle.ef_core.specs.Env.{held}
use Rattle.ef_core.specs.Plain.{plain_pat}
use Rattle.ef_core.specs.Tree as to
use Rattle.ef_core.specs.WellFormed.{IsInRange}
use Rattle.ef_forms.specs.declared.expr.Node.TheVariants as node
use Rattle.ef_forms.specs.Plain.{plain}
use Rattle.ef_forms.proofs.Shapes.{plain_any, plain_atom, plain_int, plain_list, plain_list_to, plain_tuple, plain_var}
use Rattle.ef_lowpat.proofs.Takes.{item_falls, take_next, take_weight, take_within}
use Rattle.ef_forms.proofs.expr.Expr.TheLaws.{the_size}
use Rattle.ef_lowpat.specs.Lowers.{Notes}
use Rattle.ef_lowpat.proofs.Lowered.{any_lowers, atom_lowers, int_lowers, items_as, items_below, list_lowers, list_to_lowers, lowers_as, more_lower, none_lower, noted_lowers, tuple_lowers}
use Rattle.ef_lowpat.proofs.Sources.{expr_is, pattern_at}
use Rattle.ef_lowpat.proofs.patterns.+lower.Goals as goal

pub lower-returns-in-Int-clause-lowers : goal.lower-returns-in-Int-clause-lowers
lower-returns-in-Int-clause-lowers t c =
    let fits : SFits w128 c.in-Int.value = search rules in
    lowers_as _ _ _ _ _ _ _ _ _ _ _ _ (expr_is c.args.pat.now _ _ c.in-Int.is (plain_int _)) refl (c.integer.ensures.literal ∙ ap (λ i. to.pat_lit (to.int i)) (to_z-of_z fits))
    (int_lowers _ _ _ _ _ _ c.requires.below (subst IsInRange (to_z-of_z fits) c.integer.ensures.in_range))

pub lower-returns-in-Atom-clause-lowers : goal.lower-returns-in-Atom-clause-lowers
lower-returns-in-Atom-clause-lowers t c =
    lowers_as _ _ _ _ _ _ _ _ _ _ _ _ (expr_is c.args.pat.now _ _ c.in-Atom.is (plain_atom _)) refl c.atom.ensures (atom_lowers _ _ _ _ _ _ c.requires.below)

pub lower-returns-in_ok-note-in-Var-clause-lowers : goal.lower-returns-in_ok-note-in-Var-clause-lowers
lower-returns-in_ok-note-in-Var-clause-lowers t c =
    let drawn = c.draw-var.ensures in
    let noted = subst (λ v. Notes (held (c.args.bound.now ++ c.args.found.now.binds.items) c.in-Var.name) c.in-Var.name v c.args.found.now.tests.items c.args.found.now.binds.items c.note.new.found.tests.items c.note.new.found.binds.items) drawn.0 c.in_ok-note-in-Var.ensures.noted in
    lowers_as _ _ _ _ _ _ _ _ _ _ _ _ (expr_is c.args.pat.now _ _ c.in-Var.is (plain_var _)) drawn.1 (c.variable.ensures ∙ ap to.pat_var drawn.0)
    (noted_lowers _ _ _ _ _ _ _ _ c.requires.below drawn.2 noted)

pub lower-returns-in-Any-clause-lowers : goal.lower-returns-in-Any-clause-lowers
lower-returns-in-Any-clause-lowers t c =
    let drawn = c.draw.ensures in
    lowers_as _ _ _ _ _ _ _ _ _ _ _ _ (expr_is c.args.pat.now _ _ c.in-Any.is plain_any) drawn.1 (c.variable-in-Any.ensures ∙ ap to.pat_var drawn.0) (any_lowers _ _ _ _ _ c.requires.below drawn.2)

pub lower-returns-in_ok-tuple-in-Tuple-clause-lowers : goal.lower-returns-in_ok-tuple-in-Tuple-clause-lowers
lower-returns-in_ok-tuple-in-Tuple-clause-lowers t c =
    lowers_as _ _ _ _ _ _ _ _ _ _ _ _ (expr_is c.args.pat.now _ _ c.in-Tuple.is (plain_tuple _)) refl refl
    (tuple_lowers _ _ _ _ _ _ _ _ _ _ (items_as _ _ _ _ _ _ _ _ _ _ _ (ap (map plain) (sym c.deref.ensures.value)) refl c.in_ok-pats-in-Tuple.ensures.lowers) _ c.in_ok-tuple-in-Tuple.ensures)

pub lower_all-lower-requires : goal.lower_all-lower-requires
lower_all-lower-requires t c =
    let small = c.loop-pat-test.true in
    let before = c.loop-pat.invariant.lowers in
    let drawn = before.drawn in
    let light = before.light in
    let next = take_weight c.args.pats.now c.loop-pat.pat-index c.pat-item.result small c.pat-item.is in
    let within = take_within c.args.pats.now (c.loop-pat.pat-index + 1) in
    let all = c.requires.enough in (
      item_falls the_size c.args.pats.now _ _ t small c.pat-item.is c.decreases,
      (pattern_at c.args.pats.now _ _ small c.pat-item.is c.requires.patterns, (c.loop-pat.invariant.own, (items_below _ _ _ _ _ _ _ _ _ before, omega arith))),
    )

pub lower_all-loop-pat-init : goal.lower_all-loop-pat-init
lower_all-loop-pat-init t c = record {
  own = c.requires.own;
  lowers = items_as _ _ _ _ _ _ _ _ _ _ _ refl (ap (map plain_pat) c.new-made.ensures.items) (none_lower _ _ _ _ c.requires.below);
}

pub lower_all-loop-pat-preserved : goal.lower_all-loop-pat-preserved
lower_all-loop-pat-preserved t c = record {
  own = c.in_ok-lower.ensures.own;
  lowers = items_as _ _ _ _ _ _ _ _ _ _ _ (take_next plain c.args.pats.now c.loop-pat.pat-index c.pat-item.result c.loop-pat-test.true c.pat-item.is)
      (ap (map plain_pat) c.in_ok-push.ensures.items ∙ map-append plain_pat c.loop-pat.made.items _)
      (more_lower _ _ _ _ _ _ _ _ _ _ _ _ _ _ c.loop-pat.invariant.lowers c.in_ok-lower.ensures.lowers);
}

pub lower-returns-in_ok-list-in-None-clause-lowers : goal.lower-returns-in_ok-list-in-None-clause-lowers
lower-returns-in_ok-list-in-None-clause-lowers t c =
    lowers_as _ _ _ _ _ _ _ _ _ _ _ _ (expr_is c.args.pat.now _ _ (c.in-List.is ∙ ap (node.List c.in-List.items) c.in-None.is) (plain_list _)) refl refl
    (list_lowers _ _ _ _ _ _ _ _ _ _ (items_as _ _ _ _ _ _ _ _ _ _ _ (ap (map plain) (sym c.deref-in-List.ensures.value)) refl c.in_ok-pats-in-List.ensures.lowers) _ c.in_ok-list-in-None.ensures)

pub lower-returns-in_ok-list_to-in-Some-clause-lowers : goal.lower-returns-in_ok-list_to-in-Some-clause-lowers
lower-returns-in_ok-list_to-in-Some-clause-lowers t c =
    let tail : c.deref-in-Some.result.now ≡ c.in-Some.tail.value = c.deref-in-Some.ensures in
    lowers_as _ _ _ _ _ _ _ _ _ _ _ _ (expr_is c.args.pat.now _ _ (c.in-List.is ∙ ap (node.List c.in-List.items) c.in-Some.is) (plain_list_to _ _)) refl refl
    (list_to_lowers _ _ _ _ _ _ _ _ _ _ (items_as _ _ _ _ _ _ _ _ _ _ _ (ap (map plain) (sym c.deref-in-List.ensures.value)) refl c.in_ok-pats-in-List.ensures.lowers) _ _ _ _ _
    (lowers_as _ _ _ _ _ _ _ _ _ _ _ _ (ap plain (sym tail)) refl refl c.in_ok-tail-in-Some.ensures.lowers) _ c.in_ok-list_to-in-Some.ensures)

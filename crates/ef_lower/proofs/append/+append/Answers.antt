use Rattle.std.proofs.Common.{◌≡◌, ◌<◌, ◌≤◌, ◌+◌, ◌*◌, [], ◌∷◌, get_or, refl, sym, ap, ◌∙◌, arith, length, map, rules, subst}
use Rattle.std.proofs.lemmas.List.{map-append}
use Rattle.std.proofs.Math.Facts.{to_z-of_z}
use mir.Syntax.{w128}
use mir.Val.{SFits}
use Rattle.ef_core.specs.Everywhere.{Each}
use Rattle.ef_core.specs.Fresh.{most_variables}
use Rattle.ef_core.specs.Plain as core
use Rattle.ef_core.specs.Tree as c'
use Rattle.ef_core.specs.WellFormed.{IsInRange}
use Rattle.ef_forms.specs.declared.expr.Expr.{the_lemmas}
use Rattle.ef_forms.specs.declared.expr.Node.TheVariants as node
use Rattle.ef_forms.specs.Plain.{plain, plain_all, plain_clause, plain_clauses}
use Rattle.ef_forms.specs.Tree as t'
use Rattle.ef_forms.specs.Tree.{count}
use Rattle.ef_forms.specs.Weight.{all_weight, clauses_weight, weight}
use Rattle.ef_forms.proofs.Plain.{counted}
use Rattle.ef_forms.proofs.Shapes.{plain_atom, plain_call, plain_case, plain_int, plain_list, plain_list_to, plain_match, plain_remote, plain_tuple, plain_var}
use Rattle.ef_lowpat.proofs.Takes.{item_falls, take_next, take_weight, take_within}
use Rattle.ef_forms.proofs.expr.Expr.TheLaws.{the_size}
use Rattle.ef_lowpat.specs.Budgets.{variables_per_unit}
use Rattle.ef_meaning.specs.Lowers.{AreBelow}
use Rattle.ef_lower.specs.Arms.{AreArms, ArmsCanEnd, IsArm, IsFront, MakesCase, plain_arm}
use Rattle.ef_lower.specs.Ready.{AreReady, IsReadableBind, IsReadyClause, bound_names}
use Rattle.ef_lower.proofs.Behind.{adds_as, adds_both, adds_none, held_lowers, leaf_adds, list_to_lowers, more_lowers, nothing_lowers, values_as}
use Rattle.ef_lower.proofs.ByCase.{case_lowers}
use Rattle.ef_lower.proofs.LoweredArms.{arms_can_end, arms_more}
use Rattle.ef_lower.proofs.Made.{apply_lowers, atom_lowers, int_lowers, list_lowers, lowers_as, remote_lowers, tuple_lowers, value_as, var_lowers}
use Rattle.ef_lower.proofs.Falls.{call_falls, case_falls, tuple_falls}
use Rattle.ef_lower.proofs.Matching.{match_lowers}
use Rattle.ef_lower.proofs.OneArm.{front_enough, front_is, one_arm, ready_body, ready_body_as, start_within}
use Rattle.ef_lower.proofs.Source.{all_left, atom_named, call_args, call_defined, case_argument, case_clauses, clause_within, each_get, each_ready, expr_is, grown_within, items_ready, last_place, list_to_tail, match_right, next_left, ready_as, ready_at, ready_left, ready_more, remote_args, take_last, taken, tuple_items, var_bound}
use Rattle.ef_lower.proofs.Sizes.{mapped_count}
use Rattle.ef_lower.proofs.append.+append.Goals as goal

-- ---- leaves

pub append-returns-in-Int : goal.append-returns-in-Int
append-returns-in-Int t c =
    let fits : SFits w128 c.in-Int.value = search rules in
    leaf_adds _ _ _ (lowers_as _ _ (expr_is c.args.expr.now _ _ c.in-Int.is (plain_int _)) (value_as _ _ (c.integer.ensures.literal ∙ ap (λ i. c'.lit (c'.int i)) (to_z-of_z fits))
    (int_lowers _ _ _ c.requires.place.below c.requires.place.readable _ (subst IsInRange (to_z-of_z fits) c.integer.ensures.in_range))))

pub append-returns-in-Atom : goal.append-returns-in-Atom
append-returns-in-Atom t c =
    let is = expr_is c.args.expr.now _ _ c.in-Atom.is (plain_atom c.in-Atom.name) in
    leaf_adds _ _ _ (lowers_as _ _ is (value_as _ _ c.atom.ensures (atom_lowers _ _ _ c.requires.place.below c.requires.place.readable _ (atom_named _ _ _ _ c.requires.ready.of_table is))))

pub append-returns-in-Var : goal.append-returns-in-Var
append-returns-in-Var t c =
    let is = expr_is c.args.expr.now _ _ c.in-Var.is (plain_var c.in-Var.name) in
    let bound = var_bound _ _ _ _ (ready_as _ _ is c.requires.ready) in
    let var = c.variable.ensures in
    leaf_adds _ _ _ (lowers_as _ _ is (value_as _ _ var.2 (var_lowers _ _ _ c.requires.place.below c.requires.place.readable _ var.0 bound var.1)))

-- ---- lists and tuples

pub append-append_all-requires : goal.append-append_all-requires
append-append_all-requires t c =
    let parts = items_ready _ _ c.args.expr.now _ _ c.in-List.is c.requires.ready in
    let less = parts.1 in
    let same = ap (λ l. all_weight (plain_all l)) c.deref.ensures.value in
    let all = c.requires.place.enough in
    (search (rules, the_lemmas), (c.requires.words, (subst (λ l. AreReady c.args.names.now c.args.tables.now.functions.items (bound_names c.args.env.now) (plain_all l)) (sym c.deref.ensures.value) parts.0, record { readable = c.requires.place.readable; below = c.requires.place.below; enough = omega arith })))

pub append-append-requires : goal.append-append-requires
append-append-requires t c =
    let is = expr_is c.args.expr.now _ _ (c.in-List.is ∙ ap (node.List c.in-List.items) c.in-Some.is) (plain_list_to _ _)
    ∙ (λ i. t'.tree c.args.expr.now.place (t'.list_to (plain_all (sym c.deref.ensures.value i)) (plain (sym c.deref-in-Some.ensures i)))) in
    let weighs = ap weight is in
    let items = c.in_ok-items-in-List.ensures.is in
    let drawn = items.forms.enough in
    let all = c.requires.place.enough in
    (search (rules, the_lemmas), (c.requires.words, (ready_more _ _ _ (grown_within _ items.forms.names) (list_to_tail _ _ _ _ _ (ready_as _ _ is c.requires.ready)), record { readable = items.forms.names.readable; below = items.keeps.below; enough = omega arith })))

pub append-returns-in_ok-list-in-None : goal.append-returns-in_ok-list-in-None
append-returns-in_ok-list-in-None t c =
    let is = expr_is c.args.expr.now _ _ (c.in-List.is ∙ ap (node.List c.in-List.items) c.in-None.is) (plain_list _) ∙ ap (λ l. t'.tree c.args.expr.now.place (t'.list (plain_all l))) (sym c.deref.ensures.value) in
    adds_as (λ a k. lowers_as _ _ is (list_lowers _ _ _ k c.in_ok-list-in-None.ensures)) c.in_ok-items-in-List.ensures

pub append-returns-in_ok-list_to-in-Some : goal.append-returns-in_ok-list_to-in-Some
append-returns-in_ok-list_to-in-Some t c =
    let is = expr_is c.args.expr.now _ _ (c.in-List.is ∙ ap (node.List c.in-List.items) c.in-Some.is) (plain_list_to _ _)
    ∙ (λ i. t'.tree c.args.expr.now.place (t'.list_to (plain_all (sym c.deref.ensures.value i)) (plain (sym c.deref-in-Some.ensures i)))) in
    adds_both (λ a b k l. lowers_as _ _ is (list_to_lowers _ _ _ _ _ _ k l c.in_ok-list_to-in-Some.ensures)) c.in_ok-items-in-List.ensures (held_lowers _ _ c.in_ok-tail-in-Some.ensures c.in_ok-hold-in-Some.ensures)

pub append-append_all-requires-in-Tuple : goal.append-append_all-requires-in-Tuple
append-append_all-requires-in-Tuple t c =
    let is = expr_is c.args.expr.now _ _ c.in-Tuple.is (plain_tuple _) ∙ ap (λ l. t'.tree c.args.expr.now.place (t'.tuple (plain_all l))) (sym c.deref-in-Tuple.ensures.value) in
    let weighs = ap weight is in
    let all = c.requires.place.enough in
    (tuple_falls c.args.expr.now _ _ t c.in-Tuple.is c.deref-in-Tuple.ensures.value c.decreases, (c.requires.words, (tuple_items _ _ _ _ (ready_as _ _ is c.requires.ready), record { readable = c.requires.place.readable; below = c.requires.place.below; enough = omega arith })))

pub append-returns-in_ok-tuple-in-Tuple : goal.append-returns-in_ok-tuple-in-Tuple
append-returns-in_ok-tuple-in-Tuple t c =
    let is = expr_is c.args.expr.now _ _ c.in-Tuple.is (plain_tuple _) ∙ ap (λ l. t'.tree c.args.expr.now.place (t'.tuple (plain_all l))) (sym c.deref-in-Tuple.ensures.value) in
    adds_as (λ a k. lowers_as _ _ is (tuple_lowers _ _ _ k c.in_ok-tuple-in-Tuple.ensures)) c.in_ok-items-in-Tuple.ensures

-- ---- matches

pub append-append-requires-in-Match : goal.append-append-requires-in-Match
append-append-requires-in-Match t c =
    let is = expr_is c.args.expr.now _ _ c.in-Match.is (plain_match _ _) ∙ ap (λ e. t'.tree c.args.expr.now.place (t'.matching (plain c.in-Match.left.value) (plain e))) (sym c.deref-in-Match.ensures) in
    let weighs = ap weight is in
    let all = c.requires.place.enough in
    (search (rules, the_lemmas), (c.requires.words, (match_right _ _ _ _ _ (ready_as _ _ is c.requires.ready), record { readable = c.requires.place.readable; below = c.requires.place.below; enough = omega arith })))

pub append-returns-in_ok-match_value-in-Match : goal.append-returns-in_ok-match_value-in-Match
append-returns-in_ok-match_value-in-Match t c =
    let is = expr_is c.args.expr.now _ _ c.in-Match.is (plain_match _ _)
    ∙ (λ i. t'.tree c.args.expr.now.place (t'.matching (plain (sym c.deref-in-Match-2.ensures i)) (plain (sym c.deref-in-Match.ensures i)))) in
    adds_as (λ a k. lowers_as _ _ is k) (match_lowers _ _ _ _ _ _ _ _ _ _ _ _ _ _ _ _ c.in_ok-value-in-Match.ensures c.in_ok-match_value-in-Match.ensures)

-- ---- calls

pub append-append_all-requires-in-Call : goal.append-append_all-requires-in-Call
append-append_all-requires-in-Call t c =
    let is = expr_is c.args.expr.now _ _ c.in-Call.is (plain_call _ _) ∙ ap (λ l. t'.tree c.args.expr.now.place (t'.call (plain c.in-Call.target.value) (plain_all l))) (sym c.deref-in-Call.ensures.value) in
    let weighs = ap weight is in
    let all = c.requires.place.enough in
    (call_falls c.args.expr.now _ _ _ t c.in-Call.is c.deref-in-Call.ensures.value c.decreases, (c.requires.words, (call_args _ _ _ _ _ (ready_as _ _ is c.requires.ready), record { readable = c.requires.place.readable; below = c.requires.place.below; enough = omega arith })))

pub append-apply-requires : goal.append-apply-requires
append-apply-requires t c =
    let ready = ready_as _ _ (expr_is c.args.expr.now _ _ c.in-Call.is (plain_call _ _)) c.requires.ready in
    let narrow : count (plain_all c.in-Call.args.items) ≤ 255 = ready.narrow.0 in
    let source = counted c.in-Call.args.items in
    let items = ap length c.deref-in-Call.ensures.value in
    let number = c.in_ok-args-in-Call.ensures.is.forms.number in
    let left = mapped_count core.plain c.in_ok-args-in-Call.args.items in
    let right = mapped_count plain c.deref-in-Call.result.now in
    omega arith

pub append-returns-in_ok-apply-in-Call : goal.append-returns-in_ok-apply-in-Call
append-returns-in_ok-apply-in-Call t c =
    let tree_is = expr_is c.args.expr.now _ _ c.in-Call.is (plain_call _ _) in
    let ready = ready_as _ _ tree_is c.requires.ready in
    let target = ap plain (sym c.deref-in-Call-2.ensures) ∙ c.atom_of.ensures in
    let is = tree_is ∙ (λ i. t'.tree c.args.expr.now.place (t'.call (target i) (plain_all (sym c.deref-in-Call.ensures.value i)))) in
    let narrow : count (plain_all c.in-Call.args.items) ≤ 255 = ready.narrow.0 in
    let source = counted c.in-Call.args.items in
    let items = ap length c.deref-in-Call.ensures.value in
    let number = c.in_ok-args-in-Call.ensures.is.forms.number in
    let left = mapped_count core.plain c.in_ok-args-in-Call.args.items in
    let right = mapped_count plain c.deref-in-Call.result.now in
    adds_as (λ a k. lowers_as _ _ is (value_as _ _ c.in_ok-apply-in-Call.ensures
    (apply_lowers _ _ _ _ _ k _ (sym left) (omega arith) (atom_named _ _ _ _ ready.of_table.0 target) (call_defined _ _ _ _ _ _ _ _ ready target (omega arith))))) c.in_ok-args-in-Call.ensures

pub append-append_all-requires-in-Remote : goal.append-append_all-requires-in-Remote
append-append_all-requires-in-Remote t c =
    let is = expr_is c.args.expr.now _ _ c.in-Remote.is (plain_remote _ _ _) ∙ ap (λ l. t'.tree c.args.expr.now.place (t'.remote (plain c.in-Remote.module.value) (plain c.in-Remote.function.value) (plain_all l))) (sym c.deref-in-Remote.ensures.value) in
    let weighs = ap weight is in
    let all = c.requires.place.enough in
    (search (rules, the_lemmas), (c.requires.words, (remote_args _ _ _ _ _ _ (ready_as _ _ is c.requires.ready), record { readable = c.requires.place.readable; below = c.requires.place.below; enough = omega arith })))

pub append-returns-in_ok-call-in-Remote : goal.append-returns-in_ok-call-in-Remote
append-returns-in_ok-call-in-Remote t c =
    let tree_is = expr_is c.args.expr.now _ _ c.in-Remote.is (plain_remote _ _ _) in
    let ready = ready_as _ _ tree_is c.requires.ready in
    let first = ap plain (sym c.deref-in-Remote-2.ensures) ∙ c.atom_of-in-Remote.ensures in
    let second = ap plain (sym c.deref-in-Remote-3.ensures) ∙ c.atom_of-in-Remote-2.ensures in
    let is = tree_is ∙ (λ i. t'.tree c.args.expr.now.place (t'.remote (first i) (second i) (plain_all (sym c.deref-in-Remote.ensures.value i)))) in
    adds_as (λ a k. lowers_as _ _ is (value_as _ _ c.in_ok-call-in-Remote.ensures
    (remote_lowers _ _ _ _ _ k _ _ (atom_named _ _ _ _ ready.of_table.0 first) (atom_named _ _ _ _ ready.of_table.1 second)))) c.in_ok-args-in-Remote.ensures

-- ---- one after another

pub append_all-loop-expr-init : goal.append_all-loop-expr-init
append_all-loop-expr-init t c =
    adds_none _ (values_as _ _ (ap (map core.plain) c.new-values.ensures.items) (nothing_lowers _ _ c.requires.place.below c.requires.place.readable))

pub append_all-append-requires : goal.append_all-append-requires
append_all-append-requires t c =
    let small = c.loop-expr-test.true in
    let before = c.loop-expr.invariant.is in
    let drawn = before.forms.enough in
    let next = take_weight c.args.exprs.now c.loop-expr.expr-index c.expr-item.result small c.expr-item.is in
    let within = take_within c.args.exprs.now (c.loop-expr.expr-index + 1) in
    let all = c.requires.place.enough in (
      item_falls the_size c.args.exprs.now _ _ t small c.expr-item.is c.decreases,
      (c.requires.words, (ready_more _ _ _ (grown_within _ before.forms.names) (ready_at _ _ c.args.exprs.now _ _ c.requires.ready small c.expr-item.is), record { readable = before.forms.names.readable; below = before.keeps.below; enough = omega arith })),
    )

pub append_all-hold-requires : goal.append_all-hold-requires
append_all-hold-requires t c =
    let before = c.loop-expr.invariant.is.forms.enough in
    let one = c.in_ok-value.ensures.is.form.enough in
    let next = take_weight c.args.exprs.now c.loop-expr.expr-index c.expr-item.result c.loop-expr-test.true c.expr-item.is in
    let within = take_within c.args.exprs.now (c.loop-expr.expr-index + 1) in
    let all = c.requires.place.enough in
    omega arith

pub append_all-loop-expr-preserved : goal.append_all-loop-expr-preserved
append_all-loop-expr-preserved t c =
    more_lowers _ _ c.loop-expr.invariant c.in_ok-value.ensures c.in_ok-hold.ensures
    (take_next plain c.args.exprs.now c.loop-expr.expr-index c.expr-item.result c.loop-expr-test.true c.expr-item.is)
    (ap (map core.plain) c.in_ok-push.ensures.items ∙ map-append core.plain c.loop-expr.values.items _)

-- ---- bodies

pub append_body-loop-expr-init : goal.append_body-loop-expr-init
append_body-loop-expr-init t c = record {
  left = all_left _ _ c.args.exprs.now _ c.requires.no_faults;
  lowered = ([], adds_none _ (nothing_lowers _ _ c.requires.place.below c.requires.place.readable));
}

pub append_body-append-requires : goal.append_body-append-requires
append_body-append-requires t c =
    let here = taken _ c.args.exprs.now _ _ c.loop-expr-test.true c.expr-item.is in
    let so_far = c.loop-expr.invariant.lowered.1.is in
    let before = so_far.forms.enough in
    let next = take_weight c.args.exprs.now c.loop-expr.expr-index c.expr-item.result here.0 here.1 in
    let within = take_within c.args.exprs.now (c.loop-expr.expr-index + 1) in
    let all = c.requires.place.enough in (
      item_falls the_size c.args.exprs.now _ _ t here.0 here.1 c.decreases,
      (c.requires.words, (ready_left _ _ c.args.exprs.now _ _ _ c.loop-expr.invariant.left here.0 here.1 c.requires.built c.requires.narrow c.requires.of_table, record { readable = so_far.forms.names.readable; below = so_far.keeps.below; enough = omega arith })),
    )

pub append_body-hold-requires : goal.append_body-hold-requires
append_body-hold-requires t c =
    let here = taken _ c.args.exprs.now _ _ c.loop-expr-test.true c.expr-item.is in
    let before = c.loop-expr.invariant.lowered.1.is.forms.enough in
    let one = c.in_ok-ignored.ensures.is.form.enough in
    let next = take_weight c.args.exprs.now c.loop-expr.expr-index c.expr-item.result here.0 here.1 in
    let within = take_within c.args.exprs.now (c.loop-expr.expr-index + 1) in
    let all = c.requires.place.enough in
    omega arith

pub append_body-loop-expr-preserved : goal.append_body-loop-expr-preserved
append_body-loop-expr-preserved t c =
    let here = taken _ c.args.exprs.now _ _ c.loop-expr-test.true c.expr-item.is in
    record {
      left = next_left _ _ c.args.exprs.now _ _ _ c.loop-expr.invariant.left here.0 here.1 _ c.in_ok-ignored.ensures.is.form.names.named;
      lowered = (_, more_lowers _ _ c.loop-expr.invariant.lowered.1 c.in_ok-ignored.ensures c.in_ok-hold.ensures (take_next plain c.args.exprs.now _ _ here.0 here.1) refl);
    }

pub append_body-append-requires-2 : goal.append_body-append-requires-2
append_body-append-requires-2 t c =
    let place = last_place c.args.exprs.now c.loop-expr.expr-index c.requires.some c.loop-expr-test.false c.loop-expr.auto.expr-index-end in
    let read = subst (λ n. c.index-exprs-last.result ≡ get_or c.args.exprs.now n c.index-exprs-last.result) (sym place) c.index-exprs-last.is in
    let small : c.loop-expr.expr-index < length c.args.exprs.now = let some = c.requires.some in omega arith in
    let so_far = c.loop-expr.invariant.lowered.1.is in
    let before = so_far.forms.enough in
    let next = take_weight c.args.exprs.now c.loop-expr.expr-index c.index-exprs-last.result small read in
    let within = take_within c.args.exprs.now (c.loop-expr.expr-index + 1) in
    let all = c.requires.place.enough in (
      item_falls the_size c.args.exprs.now _ _ t small read c.decreases,
      (c.requires.words, (ready_left _ _ c.args.exprs.now _ _ _ c.loop-expr.invariant.left small read c.requires.built c.requires.narrow c.requires.of_table, record { readable = so_far.forms.names.readable; below = so_far.keeps.below; enough = omega arith })),
    )

pub append_body-returns : goal.append_body-returns
append_body-returns t c =
    let place = last_place c.args.exprs.now c.loop-expr.expr-index c.requires.some c.loop-expr-test.false c.loop-expr.auto.expr-index-end in
    let read = subst (λ n. c.index-exprs-last.result ≡ get_or c.args.exprs.now n c.index-exprs-last.result) (sym place) c.index-exprs-last.is in
    record {
      front = _;
      last = _;
      whole = take_last plain c.args.exprs.now c.loop-expr.expr-index c.index-exprs-last.result (omega arith) read;
      n1 = _;
      env1 = _;
      between = _;
      values = _;
      first_lowered = c.loop-expr.invariant.lowered.1;
      last_lowered = c.in_ok-append.ensures;
    }

-- ---- cases

pub append-append-requires-in-Case : goal.append-append-requires-in-Case
append-append-requires-in-Case t c =
    let is = expr_is c.args.expr.now _ _ c.in-Case.is (plain_case _ _) ∙ ap (λ e. t'.tree c.args.expr.now.place (t'.case_of (plain e) (plain_clauses c.in-Case.clauses.items))) (sym c.deref-in-Case.ensures) in
    let weighs = ap weight is in
    let all = c.requires.place.enough in
    (search (rules, the_lemmas), (c.requires.words, (case_argument _ _ _ _ _ (ready_as _ _ is c.requires.ready), record { readable = c.requires.place.readable; below = c.requires.place.below; enough = omega arith })))

pub append-arms-requires : goal.append-arms-requires
append-arms-requires t c =
    let is = expr_is c.args.expr.now _ _ c.in-Case.is (plain_case _ _)
    ∙ (λ i. t'.tree c.args.expr.now.place (t'.case_of (plain (sym c.deref-in-Case.ensures i)) (plain_clauses (sym c.deref-in-Case-2.ensures.value i)))) in
    let weighs = ap weight is in
    let argument = (held_lowers _ _ c.in_ok-value-in-Case.ensures c.in_ok-held-in-Case.ensures).is in
    let drawn = argument.forms.enough in
    let all = c.requires.place.enough in
    (case_falls c.args.expr.now _ _ _ t c.in-Case.is c.deref-in-Case-2.ensures.value c.decreases, (c.requires.words, (each_ready _ _ _ c.deref-in-Case-2.result.now (case_clauses _ _ _ _ _ _ argument.forms.names.named (ready_as _ _ is c.requires.ready)), record { readable = argument.forms.names.readable; below = argument.keeps.below; enough = omega arith })))

pub append-choose-requires-clause-arms : goal.append-choose-requires-clause-arms
append-choose-requires-clause-arms t c =
    let is = expr_is c.args.expr.now _ _ c.in-Case.is (plain_case _ _)
    ∙ (λ i. t'.tree c.args.expr.now.place (t'.case_of (plain (sym c.deref-in-Case.ensures i)) (plain_clauses (sym c.deref-in-Case-2.ensures.value i)))) in
    let weighs = ap weight is in
    let argument = (held_lowers _ _ c.in_ok-value-in-Case.ensures c.in_ok-held-in-Case.ensures).is in
    let drawn = argument.forms.enough in
    let all = c.requires.place.enough in
    let arms = c.in_ok-arms-in-Case.ensures in
    subst (λ l. ArmsCanEnd c.hold-in-Case.new.fresh l (map plain_arm c.in_ok-arms-in-Case.arms.items)) (sym arms.same)
    (arms_can_end _ _ _ _ (map plain_clause c.deref-in-Case-2.result.now) _ arms.arms (ready_as _ _ is c.requires.ready).built.1 (omega arith))

pub append-returns-in_ok-choose-in-Case : goal.append-returns-in_ok-choose-in-Case
append-returns-in_ok-choose-in-Case t c =
    let is = expr_is c.args.expr.now _ _ c.in-Case.is (plain_case _ _)
    ∙ (λ i. t'.tree c.args.expr.now.place (t'.case_of (plain (sym c.deref-in-Case.ensures i)) (plain_clauses (sym c.deref-in-Case-2.ensures.value i)))) in
    let arms = c.in_ok-arms-in-Case.ensures in
    let makes = subst (λ l. MakesCase c.args.names.now (core.plain c.in_ok-held-in-Case.held) (map plain_arm c.in_ok-arms-in-Case.arms.items) c.hold-in-Case.new.fresh l (map core.plain_step c.hold-in-Case.new.steps.items) c.choose.new.fresh c.choose.new.env (map core.plain_step c.choose.new.steps.items) (core.plain c.in_ok-choose-in-Case.field-0)) arms.same c.in_ok-choose-in-Case.ensures in
    adds_as (λ a k. lowers_as _ _ is k)
    (case_lowers _ _ _ _ (map plain_clause c.deref-in-Case-2.result.now) _ _ _ _ _ _ _ _ _ arms.arms (ready_as _ _ is c.requires.ready).built.1 makes (held_lowers _ _ c.in_ok-value-in-Case.ensures c.in_ok-held-in-Case.ensures))

-- ---- clauses

pub arms-arm-requires : goal.arms-arm-requires
arms-arm-requires t c =
    let small = c.loop-clause-test.true in
    let same = sym c.loop-clause.invariant.same in
    let ready = each_get (λ k. IsReadyClause c.args.names.now c.args.tables.now.functions.items (bound_names c.args.env.now) (plain_clause k)) c.args.clauses.now _ _ c.requires.ready small c.clause-item.is in
    let within = clause_within c.args.clauses.now c.loop-clause.clause-index c.clause-item.result small c.clause-item.is in
    let all = c.requires.place.enough in (
      search (rules, the_lemmas),
      (c.requires.words, (subst (λ l. IsReadyClause c.args.names.now c.args.tables.now.functions.items (bound_names l) (plain_clause c.clause-item.result)) same ready, record { readable = subst (Each (IsReadableBind c.args.names.now)) same c.requires.place.readable; below = subst (AreBelow c.args.fresh.now) same c.requires.place.below; enough = omega arith })),
    )

pub arms-loop-clause-preserved : goal.arms-loop-clause-preserved
arms-loop-clause-preserved t c =
    let before = c.loop-clause.invariant in
    let one = c.in_ok-arm.ensures in
    let all = arms_more _ _ _ _ _ _ _ _ before.lowered (subst (λ l. IsArm c.args.names.now c.args.tables.now.functions.items c.args.fresh.now l (plain_clause c.clause-item.result) (plain_arm c.in_ok-arm.field-0)) before.same one.arm) in
    record {
      same = one.same ∙ before.same;
      lowered =
          subst (λ l. AreArms c.args.names.now c.args.tables.now.functions.items c.args.fresh.now c.args.env.now l (map plain_arm c.push.new.self.items)) (sym (take_next plain_clause c.args.clauses.now c.loop-clause.clause-index c.clause-item.result c.loop-clause-test.true c.clause-item.is))
          (subst (AreArms c.args.names.now c.args.tables.now.functions.items c.args.fresh.now c.args.env.now _) (sym (ap (map plain_arm) c.in_ok-push.ensures.items ∙ map-append plain_arm c.loop-clause.arms.items (c.in_ok-arm.field-0 ∷ []))) all);
    }

pub arm-front_of-requires-clause-enough : goal.arm-front_of-requires-clause-enough
arm-front_of-requires-clause-enough t c =
    let enough = subst (λ k. k + variables_per_unit * clauses_weight (plain_clauses (c.args.clause.now ∷ [])) ≤ most_variables) (sym c.copy-fresh.ensures) c.requires.place.enough in
    front_enough _ _ _ _ (plain_clause c.args.clause.now) c.requires.ready enough

pub arm-append_body-requires : goal.arm-append_body-requires
arm-append_body-requires t c =
    let front = subst (λ k. IsFront c.args.names.now (plain_clause c.args.clause.now) k c.args.env.now c.front_of.new.fresh c.front_of.new.env (core.plain_pats c.in_ok-front.front.pats.items) (core.plain c.in_ok-front.front.guard)) c.copy-fresh.ensures c.in_ok-front.ensures in
    let body = ready_body_as _ _ (map plain c.deref.result.now) _ _ _ (ap (map plain) c.deref.ensures.value) (ready_body _ _ _ _ (plain_clause c.args.clause.now) c.requires.ready _ _ _ _ front c.requires.place.readable c.requires.place.enough) in
    let some = body.some in
    let counted = mapped_count plain c.deref.result.now in
    (search (rules, the_lemmas), (c.requires.words, (omega arith, (body.built, (body.narrow, (body.of_table, (body.no_faults, record { readable = body.readable; below = body.below; enough = body.enough })))))))

pub arm-split_off-requires : goal.arm-split_off-requires
arm-split_off-requires t c =
    let front = subst (λ k. IsFront c.args.names.now (plain_clause c.args.clause.now) k c.args.env.now c.front_of.new.fresh c.front_of.new.env (core.plain_pats c.in_ok-front.front.pats.items) (core.plain c.in_ok-front.front.guard)) c.copy-fresh.ensures c.in_ok-front.ensures in
    start_within _ _ _ _ (plain_clause c.args.clause.now) c.requires.ready _ _ _ _ front (map plain c.deref.result.now) (ap (map plain) c.deref.ensures.value) _ _ (ap (map core.plain_step) c.new-steps.ensures.items) _ _ _ c.in-Ok.ensures _ c.len-start.ensures

pub arm-returns-clause-same : goal.arm-returns-clause-same
arm-returns-clause-same t c =
    let front = subst (λ k. IsFront c.args.names.now (plain_clause c.args.clause.now) k c.args.env.now c.front_of.new.fresh c.front_of.new.env (core.plain_pats c.in_ok-front.front.pats.items) (core.plain c.in_ok-front.front.guard)) c.copy-fresh.ensures c.in_ok-front.ensures in
    c.in_ok-binds.ensures.kept
    ∙ front_is _ _ _ _ (plain_clause c.args.clause.now) c.requires.ready _ _ _ _ front (map plain c.deref.result.now) (ap (map plain) c.deref.ensures.value) _ _ (ap (map core.plain_step) c.new-steps.ensures.items) _ _ _ c.in-Ok.ensures _ c.len-start.ensures

pub arm-returns-clause-arm : goal.arm-returns-clause-arm
arm-returns-clause-arm t c =
    let front = subst (λ k. IsFront c.args.names.now (plain_clause c.args.clause.now) k c.args.env.now c.front_of.new.fresh c.front_of.new.env (core.plain_pats c.in_ok-front.front.pats.items) (core.plain c.in_ok-front.front.guard)) c.copy-fresh.ensures c.in_ok-front.ensures in
    one_arm _ _ _ _ (plain_clause c.args.clause.now) c.requires.ready _ _ _ _ front (map plain c.deref.result.now) (ap (map plain) c.deref.ensures.value) _ _ (ap (map core.plain_step) c.new-steps.ensures.items) _ _ _ c.in-Ok.ensures _ c.len-start.ensures c.in_ok-binds.ensures.all_differ _ c.in_ok-binds.ensures.tail

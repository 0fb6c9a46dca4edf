use Rattle.std.proofs.Common.{◌∙◌, ap, refl, rules, sym, subst, length, ◌++◌}
use Rattle.std.proofs.lemmas.Result.{on_ok_weaker}
use Rattle.ef_forms.specs.declared.expr.Clause.{out-Clause, the_lemmas}
use Rattle.ef_forms.specs.declared.expr.Node.TheVariants as node
use Rattle.ef_forms.specs.OfTable.{ClausesOf, TreeOf}
use Rattle.ef_forms.specs.Plain.{plain, plain_all, plain_clauses, plain_node}
use Rattle.ef_forms.specs.Ways.{all_faults, beside, bind, clauses_faults, clauses_ways, faults, names, pattern_faults, side_by_side, ways}
use Rattle.ef_forms.proofs.Growth.{grows_beside}
use Rattle.ef_forms.proofs.Grows.{grows_side, grows_ways}
use Rattle.ef_forms.proofs.Shapes.{other_shape, plain_any, plain_call, plain_case, plain_list, plain_list_to, plain_match, plain_remote, plain_tuple, plain_var}
use Rattle.ef_scope.proofs.Beside.{beside_end, beside_more, walks_beside}
use Rattle.ef_scope.proofs.Bodies.{body_end, body_more}
use Rattle.ef_scope.proofs.Choices.{choices_end, choices_first, choices_more, first_and_rest, walks_clause, walks_no_clauses}
use Rattle.ef_scope.proofs.Guards.{guard_end, guard_more}
use Rattle.ef_scope.proofs.Lists.{tree_is}
use Rattle.ef_scope.proofs.Nodes.{node_walks, literal_walks, other_walks, of_all, of_clauses, of_one, of_pattern}
use Rattle.ef_scope.proofs.Parts.{back_to, walks_stay, walks_then}
use Rattle.ef_scope.proofs.check.+check.Goals as goal

-- ---- nodes

pub check-returns-in-Int : goal.check-returns-in-Int
check-returns-in-Int t c = literal_walks c.args.names.now c.args.expr.now c.args.state.now c.args.found.now c.in-Int.is

pub check-returns-in-Int-2 : goal.check-returns-in-Int-2
check-returns-in-Int-2 t c = literal_walks c.args.names.now c.args.expr.now c.args.state.now c.args.found.now c.in-Int.is

pub check-returns-in-Any : goal.check-returns-in-Any
check-returns-in-Any t c = on_ok_weaker c.add_unbound.result (λ adds.
    node_walks c.args.names.now _ _ _ _ c.args.expr.now _ _ c.in-Any.is plain_any (walks_stay _ c.args.state.now c.args.found.now c.add_unbound.new.found (λ sets shows. adds))) c.add_unbound.ensures

pub check-returns-in-Var : goal.check-returns-in-Var
check-returns-in-Var t c = on_ok_weaker c.use_name.result (λ walks.
    node_walks c.args.names.now _ _ _ _ c.args.expr.now _ _ c.in-Var.is (plain_var c.in-Var.name) walks) c.use_name.ensures

pub check-returns-in-Tuple : goal.check-returns-in-Tuple
check-returns-in-Tuple t c =
    let texts = c.args.names.now in
    let items = c.in-Tuple.items in
    on_ok_weaker c.check_all-in-Tuple.result (λ walks.
    node_walks texts _ _ _ _ c.args.expr.now _ _ c.in-Tuple.is (plain_tuple items)
    (of_all texts _ _ _ _ c.deref-in-Tuple.result.now items.items c.deref-in-Tuple.ensures.value walks)) c.check_all-in-Tuple.ensures

pub check-returns-in_default-tail : goal.check-returns-in_default-tail
check-returns-in_default-tail t c =
    let texts = c.args.names.now in
    let items = c.in-List.items in
    on_ok_weaker c.check_all.result (λ walks.
    node_walks texts _ _ _ _ c.args.expr.now _ _ (c.in-List.is ∙ ap (node.List items) c.in_default-tail.is) (plain_list items)
    (of_all texts _ _ _ _ c.deref.result.now items.items c.deref.ensures.value walks)) c.check_all.ensures

pub check-returns-in_default : goal.check-returns-in_default
check-returns-in_default t c =
    let texts = c.args.names.now in
    let expr = c.args.expr.now in
    let no = c.in_default in
    node_walks texts _ _ _ _ expr _ _ refl refl (other_walks texts expr.place (plain_node expr.node) c.args.state.now c.args.found.now
    (other_shape expr.node no.not-Int no.not-Atom no.not-Var no.not-Any no.not-List no.not-Tuple no.not-Match no.not-Call no.not-Remote no.not-Case))

pub check-returns-in_ok-check-in-Match : goal.check-returns-in_ok-check-in-Match
check-returns-in_ok-check-in-Match t c =
    let texts = c.args.names.now in
    let of = c.in-Match in
    on_ok_weaker c.match_pattern.result (λ matches.
    node_walks texts _ _ _ _ c.args.expr.now _ _ of.is (plain_match of.left of.right)
    (walks_then (ways (plain of.right.value)) (faults texts (plain of.right.value)) (bind (names (plain of.left.value))) (pattern_faults texts (plain of.left.value)) _ _ _ _ _ _
    (of_one texts _ _ _ _ c.deref-in-Match.result.now of.right.value c.deref-in-Match.ensures c.in_ok-check-in-Match.ensures)
    (of_pattern texts _ _ _ _ c.deref-in-Match-2.result.now of.left.value c.deref-in-Match-2.ensures matches))) c.match_pattern.ensures

pub check-returns-in_ok-put-in-List : goal.check-returns-in_ok-put-in-List
check-returns-in_ok-put-in-List t c =
    let texts = c.args.names.now in
    let items = c.in-List.items in
    let tail = c.in-Some.tail in
    let aside = c.in_ok-set_aside-in-List.ensures in
    node_walks texts _ _ _ _ c.args.expr.now _ _ (c.in-List.is ∙ ap (node.List items) c.in-Some.is) (plain_list_to items tail)
    (walks_beside (side_by_side (plain_all items.items)) (ways (plain tail.value)) (all_faults texts (plain_all items.items)) (faults texts (plain tail.value)) _ _ _ _ (grows_side (plain_all items.items)) (grows_ways (plain tail.value))
    c.args.state.now c.check_all-in-List.new.state c.set_aside.new.self c.check.new.state c.put.new.self c.len-start.result c.new-aside.result c.set_aside.new.aside _ _ _
    c.len-start.ensures c.new-aside.ensures.some c.new-aside.ensures.all
    (of_all texts _ _ _ _ c.deref-in-List.result.now items.items c.deref-in-List.ensures.value c.in_ok-check_all-in-List.ensures)
    aside.back aside.some aside.all
    (of_one texts _ _ _ _ c.deref-in-List-2.result.now tail.value c.deref-in-List-2.ensures c.in_ok-check-in-List.ensures)
    c.in_ok-put-in-List.ensures.puts c.in_ok-put-in-List.ensures.since)

pub check-returns-in_ok-put-in-Call : goal.check-returns-in_ok-put-in-Call
check-returns-in_ok-put-in-Call t c =
    let texts = c.args.names.now in
    let of = c.in-Call in
    let aside = c.in_ok-set_aside-in-Call.ensures in
    node_walks texts _ _ _ _ c.args.expr.now _ _ of.is (plain_call of.target of.args)
    (walks_beside (ways (plain of.target.value)) (side_by_side (plain_all of.args.items)) (faults texts (plain of.target.value)) (all_faults texts (plain_all of.args.items)) _ _ _ _ (grows_ways (plain of.target.value)) (grows_side (plain_all of.args.items))
    c.args.state.now c.check-in-Call.new.state c.set_aside-in-Call.new.self c.check_all-in-Call.new.state c.put-in-Call.new.self c.len-start-in-Call.result c.new-aside-in-Call.result c.set_aside-in-Call.new.aside _ _ _
    c.len-start-in-Call.ensures c.new-aside-in-Call.ensures.some c.new-aside-in-Call.ensures.all
    (of_one texts _ _ _ _ c.deref-in-Call.result.now of.target.value c.deref-in-Call.ensures c.in_ok-check-in-Call.ensures)
    aside.back aside.some aside.all
    (of_all texts _ _ _ _ c.deref-in-Call-2.result.now of.args.items c.deref-in-Call-2.ensures.value c.in_ok-check_all-in-Call.ensures)
    c.in_ok-put-in-Call.ensures.puts c.in_ok-put-in-Call.ensures.since)

pub check-returns-in_ok-put-in-Remote-2 : goal.check-returns-in_ok-put-in-Remote-2
check-returns-in_ok-put-in-Remote-2 t c =
    let texts = c.args.names.now in
    let of = c.in-Remote in
    let m = plain of.«module».value in
    let f = plain of.function.value in
    let es = plain_all of.args.items in
    let modules = c.in_ok-set_aside-in-Remote.ensures in
    let functions = c.in_ok-set_aside-in-Remote-2.ensures in
    let first = of_one texts _ _ _ _ c.deref-in-Remote.result.now of.«module».value c.deref-in-Remote.ensures c.in_ok-check-in-Remote.ensures in
    let same = back_to c.args.state.now c.check-in-Remote.new.state c.set_aside-in-Remote.new.self c.len-start-in-Remote.result first.since c.len-start-in-Remote.ensures modules.back in
    node_walks texts _ _ _ _ c.args.expr.now _ _ of.is (plain_remote of.«module» of.function of.args)
    (walks_beside (ways m) (beside (ways f) (side_by_side es)) (faults texts m) (λ s. faults texts f s ++ all_faults texts es s) _ _ _ _ (grows_ways m) (grows_beside _ _ _ _ _ _ (grows_ways f) (grows_side es))
    c.args.state.now c.check-in-Remote.new.state c.set_aside-in-Remote.new.self c.put-in-Remote.new.self c.put-in-Remote-2.new.self c.len-start-in-Remote.result c.new-modules.result c.set_aside-in-Remote.new.aside _ _ _
    c.len-start-in-Remote.ensures c.new-modules.ensures.some c.new-modules.ensures.all first modules.back modules.some modules.all
    (walks_beside (ways f) (side_by_side es) (faults texts f) (all_faults texts es) _ _ _ _ (grows_ways f) (grows_side es)
    c.set_aside-in-Remote.new.self c.check-in-Remote-2.new.state c.set_aside-in-Remote-2.new.self c.check_all-in-Remote.new.state c.put-in-Remote.new.self c.len-start-in-Remote.result c.new-functions.result c.set_aside-in-Remote-2.new.aside _ _ _
    (c.len-start-in-Remote.ensures ∙ ap length (sym same.trail)) c.new-functions.ensures.some c.new-functions.ensures.all
    (of_one texts _ _ _ _ c.deref-in-Remote-2.result.now of.function.value c.deref-in-Remote-2.ensures c.in_ok-check-in-Remote-2.ensures)
    functions.back functions.some functions.all
    (of_all texts _ _ _ _ c.deref-in-Remote-3.result.now of.args.items c.deref-in-Remote-3.ensures.value c.in_ok-check_all-in-Remote.ensures)
    c.in_ok-put-in-Remote.ensures.puts c.in_ok-put-in-Remote.ensures.since)
    c.in_ok-put-in-Remote-2.ensures.puts c.in_ok-put-in-Remote-2.ensures.since)

pub check-check_clauses-requires : goal.check-check_clauses-requires
check-check_clauses-requires t c =
    let of = c.in-Case in (
      search (rules, the_lemmas),
      subst (λ l. ClausesOf c.args.names.now (plain_clauses l)) (sym c.deref-in-Case-2.ensures.value) (subst (TreeOf c.args.names.now) (tree_is c.args.expr.now _ _ of.is (plain_case of.arg of.clauses)) c.requires).1,
    )

pub check-returns-in_ok-check-in-Case : goal.check-returns-in_ok-check-in-Case
check-returns-in_ok-check-in-Case t c =
    let texts = c.args.names.now in
    let of = c.in-Case in
    on_ok_weaker c.check_clauses.result (λ walks.
    node_walks texts _ _ _ _ c.args.expr.now _ _ of.is (plain_case of.arg of.clauses)
    (walks_then (ways (plain of.arg.value)) (faults texts (plain of.arg.value)) (clauses_ways (plain_clauses of.clauses.items)) (clauses_faults texts (plain_clauses of.clauses.items)) _ _ _ _ _ _
    (of_one texts _ _ _ _ c.deref-in-Case.result.now of.arg.value c.deref-in-Case.ensures c.in_ok-check-in-Case.ensures)
    (of_clauses texts _ _ _ _ c.deref-in-Case-2.result.now of.clauses.items c.deref-in-Case-2.ensures.value walks))) c.check_clauses.ensures

-- ---- side by side

pub check_all-loop-expr-preserved : goal.check_all-loop-expr-preserved
check_all-loop-expr-preserved t c =
    let aside = c.in_ok-set_aside.ensures in
    beside_more c.args.names.now c.args.exprs.now c.loop-expr.expr-index c.expr-item.result c.args.state.now c.loop-expr.state c.set_aside.new.self c.check.new.state c.len-start.result
    c.loop-expr.others c.set_aside.new.aside c.args.found.now c.loop-expr.found c.check.new.found
    c.loop-expr-test.true c.expr-item.is c.len-start.ensures c.loop-expr.invariant aside.back aside.some aside.all c.in_ok-check.ensures

pub check_all-returns : goal.check_all-returns
check_all-returns t c =
    beside_end c.args.names.now c.args.exprs.now c.loop-expr.expr-index c.args.state.now c.loop-expr.state c.put.new.self c.loop-expr.others c.args.found.now c.loop-expr.found
    c.loop-expr-test.false c.loop-expr.invariant c.in_ok-put.ensures.puts c.in_ok-put.ensures.since

-- ---- bodies and clauses

pub check_body-loop-expr-preserved : goal.check_body-loop-expr-preserved
check_body-loop-expr-preserved t c =
    body_more c.args.names.now c.args.body.now c.loop-expr.expr-index c.expr-item.result c.args.state.now c.loop-expr.state c.check.new.state c.args.found.now c.loop-expr.found c.check.new.found
    c.loop-expr-test.true c.expr-item.is c.loop-expr.invariant c.in_ok-check.ensures

pub check_body-returns : goal.check_body-returns
check_body-returns t c =
    body_end c.args.names.now c.args.body.now c.loop-expr.expr-index c.args.state.now c.loop-expr.state c.args.found.now c.loop-expr.found c.loop-expr-test.false c.loop-expr.invariant

pub check_clause-returns : goal.check_clause-returns
check_clause-returns t c = on_ok_weaker c.check_body.result (λ walks.
    walks_clause c.args.names.now c.args.clause.now c.deref.result.now c.deref-2.result.now c.args.state.now c.match_patterns.new.state c.check_guard.new.state c.check_body.new.state
    c.args.found.now c.match_patterns.new.found c.check_guard.new.found c.check_body.new.found
    c.deref.ensures.value c.deref-2.ensures.value c.in_ok-match_patterns.ensures c.in_ok-check_guard.ensures walks) c.check_body.ensures

pub check_guard-loop-tests-preserved : goal.check_guard-loop-tests-preserved
check_guard-loop-tests-preserved t c =
    guard_more c.args.names.now (out-Clause c.args.clause.now).guard.items c.deref-tests-items.result.now c.loop-tests.tests-index c.tests-item.result c.deref.result.now c.args.state.now c.loop-tests.state c.check_body.new.state
    c.args.found.now c.loop-tests.found c.check_body.new.found
    c.deref-tests-items.ensures.value c.loop-tests-test.true c.tests-item.is c.deref.ensures.value c.loop-tests.invariant c.in_ok-check_body.ensures

pub check_guard-returns : goal.check_guard-returns
check_guard-returns t c = on_ok_weaker c.take_back.result (λ back.
    guard_end c.args.names.now (out-Clause c.args.clause.now).guard.items c.deref-tests-items.result.now c.loop-tests.tests-index c.args.state.now c.loop-tests.state c.take_back.new.self c.len-start.result c.args.found.now c.loop-tests.found
    c.deref-tests-items.ensures.value c.loop-tests-test.false c.len-start.ensures c.loop-tests.invariant back) c.take_back.ensures

pub check_clauses-returns-in_default : goal.check_clauses-returns-in_default
check_clauses-returns-in_default t c = walks_no_clauses c.args.names.now c.args.clauses.now c.args.state.now c.args.found.now c.in_default.len_below

pub check_clauses-loop-clause-init : goal.check_clauses-loop-clause-init
check_clauses-loop-clause-init t c =
    let aside = c.in_ok-set_aside.ensures in
    choices_first c.args.names.now c.args.clauses.now c.first-item.result _ c.args.state.now c.check_clause.new.state c.set_aside.new.self c.len-start.result c.new-choices.result c.set_aside.new.aside c.args.found.now c.check_clause.new.found
    (first_and_rest c.args.clauses.now c.first-item.result c.in-len1-up.len_at_least c.first-item.is) c.requires c.len-start.ensures c.new-choices.ensures.some c.new-choices.ensures.all
    c.in_ok-check_clause.ensures aside.back aside.some aside.all

pub check_clauses-loop-clause-preserved : goal.check_clauses-loop-clause-preserved
check_clauses-loop-clause-preserved t c =
    let aside = c.in_ok-set_aside_choice.ensures in
    choices_more c.args.names.now c.args.clauses.now _ c.loop-clause.clause-index c.clause-item.result c.args.state.now c.loop-clause.state c.check_clause-in-loop-clause.new.state c.set_aside_choice.new.self c.len-start.result
    c.loop-clause.choices c.set_aside_choice.new.aside c.args.found.now c.loop-clause.found c.check_clause-in-loop-clause.new.found
    c.loop-clause-test.true c.clause-item.is c.len-start.ensures c.loop-clause.invariant c.in_ok-check_clause-2.ensures aside.back aside.some aside.all

pub check_clauses-returns : goal.check_clauses-returns
check_clauses-returns t c =
    choices_end c.args.names.now c.args.clauses.now _ c.loop-clause.clause-index c.args.state.now c.loop-clause.state c.put.new.self c.loop-clause.choices c.args.found.now c.loop-clause.found
    c.in-len1-up.len_at_least c.loop-clause-test.false c.loop-clause.invariant c.in_ok-put.ensures.puts c.in_ok-put.ensures.since

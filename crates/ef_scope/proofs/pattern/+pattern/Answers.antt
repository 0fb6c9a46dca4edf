use Rattle.std.proofs.Common.{◌∙◌, ap, rules, sym, subst}
use Rattle.std.specs.Prelude.{◌||◌}
use Rattle.std.proofs.lemmas.Result.{on_ok_weaker}
use Rattle.ef_forms.specs.declared.expr.Clause.{out-Clause, the_lemmas}
use Rattle.ef_forms.specs.declared.expr.Node.TheVariants as node
use Rattle.ef_forms.specs.OfTable.{ClausesOf, TreeOf}
use Rattle.ef_forms.specs.Plain.{plain, plain_all, plain_clauses}
use Rattle.ef_forms.specs.Ways.{all_names, clauses_names, names}
use Rattle.ef_forms.proofs.Bools.{or_assoc}
use Rattle.ef_forms.proofs.Shapes.{plain_call, plain_case, plain_list_to, plain_match, plain_remote, plain_tuple, plain_var}
use Rattle.ef_scope.specs.Trail.{has}
use Rattle.ef_scope.proofs.Adds.{adds_then}
use Rattle.ef_scope.proofs.Lists.{tree_is}
use Rattle.ef_scope.proofs.Patterns.{all_adds, clauses_add, clauses_faults_end, clauses_more, has_pushed, one_adds, pattern_adds, pattern_names, patterns_faults_end, patterns_more, tests_faults_end, tests_more}
use Rattle.ef_scope.proofs.pattern.+pattern.Goals as goal

-- ---- lists

pub check_patterns-loop-pattern-preserved : goal.check_patterns-loop-pattern-preserved
check_patterns-loop-pattern-preserved t c =
    patterns_more c.args.names.now c.args.patterns.now c.loop-pattern.pattern-index c.pattern-item.result c.args.state.now c.args.found.now c.loop-pattern.found c.check_pattern.new.found c.args.bound.now.items c.loop-pattern.bound.items c.check_pattern.new.bound.items
    c.loop-pattern-test.true c.pattern-item.is c.loop-pattern.invariant c.in_ok-check_pattern.ensures.faults c.in_ok-check_pattern.ensures.names

pub check_patterns-returns-clause-faults : goal.check_patterns-returns-clause-faults
check_patterns-returns-clause-faults t c =
    patterns_faults_end c.args.names.now c.args.patterns.now c.loop-pattern.pattern-index c.args.state.now c.args.found.now c.loop-pattern.found c.args.bound.now.items c.loop-pattern.bound.items c.loop-pattern-test.false c.loop-pattern.invariant

pub check_clauses-loop-clause-preserved : goal.check_clauses-loop-clause-preserved
check_clauses-loop-clause-preserved t c =
    clauses_more c.args.names.now c.args.clauses.now c.loop-clause.clause-index c.clause-item.result c.deref.result.now c.deref-in-loop-clause.result.now c.args.state.now
    c.args.found.now c.loop-clause.found c.check_patterns.new.found c.check_guard.new.found c.check_patterns-in-loop-clause.new.found
    c.args.bound.now.items c.loop-clause.bound.items c.check_patterns.new.bound.items c.check_guard.new.bound.items c.check_patterns-in-loop-clause.new.bound.items
    c.loop-clause-test.true c.clause-item.is c.deref.ensures.value c.deref-in-loop-clause.ensures.value c.loop-clause.invariant
    c.in_ok-check_patterns.ensures.faults c.in_ok-check_patterns.ensures.names c.in_ok-check_guard.ensures.faults c.in_ok-check_guard.ensures.names
    c.in_ok-check_patterns-2.ensures.faults c.in_ok-check_patterns-2.ensures.names

pub check_clauses-returns-clause-faults : goal.check_clauses-returns-clause-faults
check_clauses-returns-clause-faults t c =
    clauses_faults_end c.args.names.now c.args.clauses.now c.loop-clause.clause-index c.args.state.now c.args.found.now c.loop-clause.found c.args.bound.now.items c.loop-clause.bound.items c.loop-clause-test.false c.loop-clause.invariant

pub check_guard-loop-tests-preserved : goal.check_guard-loop-tests-preserved
check_guard-loop-tests-preserved t c =
    tests_more c.args.names.now (out-Clause c.args.clause.now).guard.items c.deref-tests-items.result.now c.loop-tests.tests-index c.tests-item.result c.deref.result.now c.args.state.now
    c.args.found.now c.loop-tests.found c.check_patterns.new.found c.args.bound.now.items c.loop-tests.bound.items c.check_patterns.new.bound.items
    c.deref-tests-items.ensures.value c.loop-tests-test.true c.tests-item.is c.deref.ensures.value c.loop-tests.invariant c.in_ok-check_patterns.ensures.faults c.in_ok-check_patterns.ensures.names

pub check_guard-returns-clause-faults : goal.check_guard-returns-clause-faults
check_guard-returns-clause-faults t c =
    tests_faults_end c.args.names.now (out-Clause c.args.clause.now).guard.items c.deref-tests-items.result.now c.loop-tests.tests-index c.args.state.now c.args.found.now c.loop-tests.found c.args.bound.now.items c.loop-tests.bound.items
    c.deref-tests-items.ensures.value c.loop-tests-test.false c.loop-tests.invariant

-- ---- nodes

pub check_pattern-returns-in_ok-push-in-Var-clause-names : goal.check_pattern-returns-in_ok-push-in-Var-clause-names
check_pattern-returns-in_ok-push-in-Var-clause-names t c = λ m.
    pattern_names c.args.pattern.now _ _ m _ _ c.in-Var.is (plain_var c.in-Var.name) (ap (λ l. has l m) c.in_ok-push-in-Var.ensures.items ∙ has_pushed c.args.bound.now.items c.in-Var.name.index m)

pub check_pattern-returns-in-Some-clause-faults : goal.check_pattern-returns-in-Some-clause-faults
check_pattern-returns-in-Some-clause-faults t c =
    let names = c.args.names.now in
    let of = c.in-List in
    let tail = c.in-Some.tail in
    let old = c.args.found.now in
    let mid = c.check_patterns.new.found in
    let new = c.check_pattern.new.found in
    on_ok_weaker c.check_pattern.result (λ adds sets shows.
    pattern_adds names c.args.pattern.now _ _ sets old new (of.is ∙ ap (node.List of.items) c.in-Some.is) (plain_list_to of.items tail)
    (adds_then old mid new _ _
    (all_adds names c.deref.result.now of.items.items sets old mid c.deref.ensures.value (c.in_ok-check_patterns-in-List.ensures.faults sets shows))
    (one_adds names c.deref-in-Some.result.now tail.value sets mid new c.deref-in-Some.ensures (adds sets shows)))) c.check_pattern.ensures.faults

pub check_pattern-returns-in-Tuple-clause-faults : goal.check_pattern-returns-in-Tuple-clause-faults
check_pattern-returns-in-Tuple-clause-faults t c =
    let names = c.args.names.now in
    let items = c.in-Tuple.items in
    let old = c.args.found.now in
    let new = c.check_patterns-in-Tuple.new.found in
    on_ok_weaker c.check_patterns-in-Tuple.result (λ adds sets shows.
    pattern_adds names c.args.pattern.now _ _ sets old new c.in-Tuple.is (plain_tuple items)
    (all_adds names c.deref-in-Tuple.result.now items.items sets old new c.deref-in-Tuple.ensures.value (adds sets shows))) c.check_patterns-in-Tuple.ensures.faults

pub check_pattern-returns-in_ok-check_pattern-in-Match-clause-faults : goal.check_pattern-returns-in_ok-check_pattern-in-Match-clause-faults
check_pattern-returns-in_ok-check_pattern-in-Match-clause-faults t c =
    let names = c.args.names.now in
    let of = c.in-Match in
    let old = c.args.found.now in
    let mid = c.check_pattern-in-Match.new.found in
    let new = c.check_pattern-in-Match-2.new.found in
    on_ok_weaker c.check_pattern-in-Match-2.result (λ adds sets shows.
    pattern_adds names c.args.pattern.now _ _ sets old new of.is (plain_match of.left of.right)
    (adds_then old mid new _ _
    (one_adds names c.deref-in-Match.result.now of.left.value sets old mid c.deref-in-Match.ensures (c.in_ok-check_pattern-in-Match.ensures.faults sets shows))
    (one_adds names c.deref-in-Match-2.result.now of.right.value sets mid new c.deref-in-Match-2.ensures (adds sets shows)))) c.check_pattern-in-Match-2.ensures.faults

pub check_pattern-returns-in_ok-check_pattern-in-Call-clause-faults : goal.check_pattern-returns-in_ok-check_pattern-in-Call-clause-faults
check_pattern-returns-in_ok-check_pattern-in-Call-clause-faults t c =
    let names = c.args.names.now in
    let of = c.in-Call in
    let old = c.args.found.now in
    let mid = c.check_pattern-in-Call.new.found in
    let new = c.check_patterns-in-Call.new.found in
    on_ok_weaker c.check_patterns-in-Call.result (λ adds sets shows.
    pattern_adds names c.args.pattern.now _ _ sets old new of.is (plain_call of.target of.args)
    (adds_then old mid new _ _
    (one_adds names c.deref-in-Call.result.now of.target.value sets old mid c.deref-in-Call.ensures (c.in_ok-check_pattern-in-Call.ensures.faults sets shows))
    (all_adds names c.deref-in-Call-2.result.now of.args.items sets mid new c.deref-in-Call-2.ensures.value (adds sets shows)))) c.check_patterns-in-Call.ensures.faults

pub check_pattern-returns-in_ok-check_pattern-in-Remote-2-clause-faults : goal.check_pattern-returns-in_ok-check_pattern-in-Remote-2-clause-faults
check_pattern-returns-in_ok-check_pattern-in-Remote-2-clause-faults t c =
    let names = c.args.names.now in
    let of = c.in-Remote in
    let old = c.args.found.now in
    let first = c.check_pattern-in-Remote.new.found in
    let second = c.check_pattern-in-Remote-2.new.found in
    let new = c.check_patterns-in-Remote.new.found in
    on_ok_weaker c.check_patterns-in-Remote.result (λ adds sets shows.
    pattern_adds names c.args.pattern.now _ _ sets old new of.is (plain_remote of.«module» of.function of.args)
    (adds_then old first new _ _
    (one_adds names c.deref-in-Remote.result.now of.«module».value sets old first c.deref-in-Remote.ensures (c.in_ok-check_pattern-in-Remote.ensures.faults sets shows))
    (adds_then first second new _ _
    (one_adds names c.deref-in-Remote-2.result.now of.function.value sets first second c.deref-in-Remote-2.ensures (c.in_ok-check_pattern-in-Remote-2.ensures.faults sets shows))
    (all_adds names c.deref-in-Remote-3.result.now of.args.items sets second new c.deref-in-Remote-3.ensures.value (adds sets shows))))) c.check_patterns-in-Remote.ensures.faults

pub check_pattern-returns-in_ok-check_pattern-in-Remote-2-clause-names : goal.check_pattern-returns-in_ok-check_pattern-in-Remote-2-clause-names
check_pattern-returns-in_ok-check_pattern-in-Remote-2-clause-names t c =
    let of = c.in-Remote in
    let before = c.args.bound.now.items in
    let one = c.check_pattern-in-Remote.new.bound.items in
    let two = c.check_pattern-in-Remote-2.new.bound.items in
    let home = plain of.«module».value in
    let called = plain of.function.value in
    let args = plain_all of.args.items in
    on_ok_weaker c.check_patterns-in-Remote.result (λ binds m.
    pattern_names c.args.pattern.now _ _ m _ _ of.is (plain_remote of.«module» of.function of.args)
    (binds m ∙ ap (λ l. has two m || all_names (plain_all l) m) c.deref-in-Remote-3.ensures.value
    ∙ ap (λ z. z || all_names args m) (c.in_ok-check_pattern-in-Remote-2.ensures.names m ∙ ap (λ e. has one m || names (plain e) m) c.deref-in-Remote-2.ensures
    ∙ ap (λ z. z || names called m) (c.in_ok-check_pattern-in-Remote.ensures.names m ∙ ap (λ e. has before m || names (plain e) m) c.deref-in-Remote.ensures))
    ∙ or_assoc (has before m || names home m) (names called m) (all_names args m)
    ∙ or_assoc (has before m) (names home m) (names called m || all_names args m))) c.check_patterns-in-Remote.ensures.names

pub check_pattern-check_clauses-requires : goal.check_pattern-check_clauses-requires
check_pattern-check_clauses-requires t c =
    let of = c.in-Case in (
      search (rules, the_lemmas),
      subst (λ l. ClausesOf c.args.names.now (plain_clauses l)) (sym c.deref-in-Case-2.ensures.value) (subst (TreeOf c.args.names.now) (tree_is c.args.pattern.now _ _ of.is (plain_case of.arg of.clauses)) c.requires).1,
    )

pub check_pattern-returns-in_ok-check_pattern-in-Case-clause-faults : goal.check_pattern-returns-in_ok-check_pattern-in-Case-clause-faults
check_pattern-returns-in_ok-check_pattern-in-Case-clause-faults t c =
    let names = c.args.names.now in
    let of = c.in-Case in
    let old = c.args.found.now in
    let mid = c.check_pattern-in-Case.new.found in
    let new = c.check_clauses.new.found in
    on_ok_weaker c.check_clauses.result (λ adds sets shows.
    pattern_adds names c.args.pattern.now _ _ sets old new of.is (plain_case of.arg of.clauses)
    (adds_then old mid new _ _
    (one_adds names c.deref-in-Case.result.now of.arg.value sets old mid c.deref-in-Case.ensures (c.in_ok-check_pattern-in-Case.ensures.faults sets shows))
    (clauses_add names c.deref-in-Case-2.result.now of.clauses.items sets mid new c.deref-in-Case-2.ensures.value (adds sets shows)))) c.check_clauses.ensures.faults

pub check_pattern-returns-in_ok-check_pattern-in-Case-clause-names : goal.check_pattern-returns-in_ok-check_pattern-in-Case-clause-names
check_pattern-returns-in_ok-check_pattern-in-Case-clause-names t c =
    let of = c.in-Case in
    let before = c.args.bound.now.items in
    let between = c.check_pattern-in-Case.new.bound.items in
    on_ok_weaker c.check_clauses.result (λ binds m.
    pattern_names c.args.pattern.now _ _ m _ _ of.is (plain_case of.arg of.clauses)
    (binds m ∙ ap (λ l. has between m || clauses_names (plain_clauses l) m) c.deref-in-Case-2.ensures.value
    ∙ ap (λ z. z || clauses_names (plain_clauses of.clauses.items) m) (c.in_ok-check_pattern-in-Case.ensures.names m ∙ ap (λ e. has before m || names (plain e) m) c.deref-in-Case.ensures)
    ∙ or_assoc (has before m) (names (plain of.arg.value) m) (clauses_names (plain_clauses of.clauses.items) m))) c.check_clauses.ensures.names

use Rattle.std.proofs.Common.{◌≡◌, ◌≤◌, length, arith, rules}
use Rattle.std.proofs.lemmas.Grind.{common_steps}
use Rattle.std.proofs.lemmas.Bool.Decides.{nat_tests}
use Rattle.ef_forms.specs.declared.expr.Clause.{out-Clause, the_lemmas}
use Rattle.ef_tables.proofs.Calls.{case_told, clauses_names, guarded, of_another_number, unguarded}
use Rattle.ef_tables.proofs.built.+built.Goals as goal

pub is_built_clause-returns-then-not-is_empty : goal.is_built_clause-returns-then-not-is_empty
is_built_clause-returns-then-not-is_empty t c =
    let given : 1 ≤ length (out-Clause c.args.clause.now).guard.items = grind (arith, common_steps, nat_tests) in
    guarded c.args.names.now c.args.defined.now c.args.arity c.args.clause.now given

pub is_built_clause-returns-then-len-arity : goal.is_built_clause-returns-then-len-arity
is_built_clause-returns-then-len-arity t c = of_another_number c.args.names.now c.args.defined.now c.args.arity c.args.clause.now (λ same. grind (arith, common_steps, nat_tests))

pub is_built_clause-returns-then-are_patterns : goal.is_built_clause-returns-then-are_patterns
is_built_clause-returns-then-are_patterns t c =
    let clause = c.args.clause.now in
    let none : length (out-Clause clause).guard.items ≡ 0 = grind (arith, common_steps, nat_tests) in
    let counts : length (out-Clause clause).patterns.items ≡ c.args.arity = grind (arith, common_steps) in
    let some : 1 ≤ length (out-Clause clause).body.items = grind (arith, common_steps, nat_tests) in
    unguarded c.args.names.now c.args.defined.now c.args.arity clause c.deref.result.now c.deref-then-are_patterns.result.now c.are_built.result none counts some c.deref.ensures.value c.deref-then-are_patterns.ensures.value
    (c.are_patterns.ensures.0 c.if-are_patterns.true) c.are_built.ensures

pub is_built_expr-are_built_clauses-requires : goal.is_built_expr-are_built_clauses-requires
is_built_expr-are_built_clauses-requires t c =
    (search (rules, the_lemmas), clauses_names c.args.names.now c.args.defined.now c.args.expr.now c.in-Case.arg c.in-Case.clauses c.deref-then-is_built_expr.result.now c.in-Case.is c.deref-then-is_built_expr.ensures.value c.requires)

pub is_built_expr-returns-then-is_built_expr : goal.is_built_expr-returns-then-is_built_expr
is_built_expr-returns-then-is_built_expr t c =
    let clauses = c.deref-then-is_built_expr.result.now in
    let given : 1 ≤ length clauses = grind (arith, common_steps, nat_tests) in
    case_told c.args.names.now c.args.defined.now c.args.expr.now c.in-Case.arg c.in-Case.clauses clauses c.in-Case.is c.deref-then-is_built_expr.ensures.value
    c.deref-in-Case.result.now c.are_built_clauses.result c.deref-in-Case.ensures given (c.is_built_expr-in-Case.ensures.0 c.if-is_built_expr.true) c.are_built_clauses.ensures

use Rattle.std.proofs.Common.{ℕ, ◌+◌, ◌*◌, max, Option, None, Some}
use Rattle.std.specs.Prelude.{Box}
use Rattle.std.specs.declared.alloc.Global.{Global}
use denote.Param.Weighed.{most}
use Rattle.ef_core.specs.declared.tree.CoreExpr.{CoreExpr}
use Rattle.ef_core.proofs.tree.CoreExpr.TheLaws as expr
use Rattle.ef_core.proofs.tree.CoreDef.TheLaws as def
use Rattle.ef_core.proofs.tree.CoreClause.TheLaws as clause
use Rattle.ef_core.proofs.tree.LetStep.TheLaws as step
use Rattle.ef_print.proofs.Lists.{Goes}
use Rattle.ef_print.proofs.Parts.{more_exprs, all_steps, all_defs, all_clauses, more_segments, more_pat_segments, more_pats}
use Rattle.ef_print.proofs.+expr.Given as goal

-- ---- measures: the depth goes first, and at one depth a node (1) is below a list of nodes (2), this below what holds it (3),
-- and arguments below a call (4)

abbrev tail_size : Option (Box CoreExpr Global) → ℕ
tail_size None = 0
tail_size (Some e) = expr.the_size e.value

abbrev pub decreases-expr::print_expr : goal.decreases-expr::print_expr
decreases-expr::print_expr g l = 4 * goal.size-expr::print_expr g l + 1

abbrev pub decreases-expr::print_fun : goal.decreases-expr::print_fun
decreases-expr::print_fun g l = 4 * goal.size-expr::print_fun g l + 2

abbrev pub decreases-expr::print_values : goal.decreases-expr::print_values
decreases-expr::print_values g l = 4 * goal.size-expr::print_values g l + 3

abbrev pub decreases-expr::print_tuple : goal.decreases-expr::print_tuple
decreases-expr::print_tuple g l = 4 * goal.size-expr::print_tuple g l + 3

abbrev pub decreases-expr::print_list : goal.decreases-expr::print_list
decreases-expr::print_list g l = 4 * max (most expr.the_size l.items.now) (tail_size l.tail.now) + 3

abbrev pub decreases-expr::print_all : goal.decreases-expr::print_all
decreases-expr::print_all g l = 4 * goal.size-expr::print_all g l + 2

abbrev pub decreases-expr::print_bin : goal.decreases-expr::print_bin
decreases-expr::print_bin g l = 4 * goal.size-expr::print_bin g l + 3

abbrev pub decreases-expr::print_lets : goal.decreases-expr::print_lets
decreases-expr::print_lets g l = 4 * max (most step.the_size l.steps.now) (expr.the_size l.body.now) + 3

abbrev pub decreases-expr::print_steps : goal.decreases-expr::print_steps
decreases-expr::print_steps g l = 4 * goal.size-expr::print_steps g l + 2

abbrev pub decreases-expr::print_step : goal.decreases-expr::print_step
decreases-expr::print_step g l = 4 * goal.size-expr::print_step g l + 1

abbrev pub decreases-expr::print_letrec : goal.decreases-expr::print_letrec
decreases-expr::print_letrec g l = 4 * max (most def.the_size l.defs.now) (expr.the_size l.body.now) + 3

abbrev pub decreases-expr::print_defs : goal.decreases-expr::print_defs
decreases-expr::print_defs g l = 4 * goal.size-expr::print_defs g l + 2

abbrev pub decreases-expr::print_def : goal.decreases-expr::print_def
decreases-expr::print_def g l = 4 * goal.size-expr::print_def g l + 1

abbrev pub decreases-expr::print_case : goal.decreases-expr::print_case
decreases-expr::print_case g l = 4 * max (expr.the_size l.arg.now) (most clause.the_size l.clauses.now) + 3

abbrev pub decreases-expr::print_do : goal.decreases-expr::print_do
decreases-expr::print_do g l = 4 * max (expr.the_size l.first.now) (expr.the_size l.second.now) + 3

abbrev pub decreases-expr::print_receive : goal.decreases-expr::print_receive
decreases-expr::print_receive g l = 4 * max (most clause.the_size l.clauses.now) (max (expr.the_size l.timeout.now) (expr.the_size l.body.now)) + 3

abbrev pub decreases-expr::print_branch : goal.decreases-expr::print_branch
decreases-expr::print_branch g l = 4 * goal.size-expr::print_branch g l + 2

abbrev pub decreases-call::print_apply : goal.decreases-call::print_apply
decreases-call::print_apply g l = 4 * max (expr.the_size l.target.now) (most expr.the_size l.args.now) + 4

abbrev pub decreases-call::print_call : goal.decreases-call::print_call
decreases-call::print_call g l = 4 * max (expr.the_size l.«module».now) (max (expr.the_size l.function.now) (most expr.the_size l.args.now)) + 4

abbrev pub decreases-call::print_primop : goal.decreases-call::print_primop
decreases-call::print_primop g l = 4 * goal.size-call::print_primop g l + 4

abbrev pub decreases-call::print_args : goal.decreases-call::print_args
decreases-call::print_args g l = 4 * goal.size-call::print_args g l + 3

abbrev pub decreases-clause::print_clauses : goal.decreases-clause::print_clauses
decreases-clause::print_clauses g l = 4 * goal.size-clause::print_clauses g l + 2

abbrev pub decreases-clause::print_clause : goal.decreases-clause::print_clause
decreases-clause::print_clause g l = 4 * goal.size-clause::print_clause g l + 1

abbrev pub decreases-segment::print_segments : goal.decreases-segment::print_segments
decreases-segment::print_segments g l = 4 * goal.size-segment::print_segments g l + 2

abbrev pub decreases-segment::print_segment : goal.decreases-segment::print_segment
decreases-segment::print_segment g l = 4 * goal.size-segment::print_segment g l + 1

abbrev pub decreases-segment::print_pat_segments : goal.decreases-segment::print_pat_segments
decreases-segment::print_pat_segments g l = 4 * goal.size-segment::print_pat_segments g l + 2

abbrev pub decreases-segment::print_pat_segment : goal.decreases-segment::print_pat_segment
decreases-segment::print_pat_segment g l = 4 * goal.size-segment::print_pat_segment g l + 1

abbrev pub decreases-pattern::print_pat : goal.decreases-pattern::print_pat
decreases-pattern::print_pat g l = 4 * goal.size-pattern::print_pat g l + 1

abbrev pub decreases-pattern::print_pats : goal.decreases-pattern::print_pats
decreases-pattern::print_pats g l = 4 * goal.size-pattern::print_pats g l + 3

abbrev pub decreases-pattern::print_all_pats : goal.decreases-pattern::print_all_pats
decreases-pattern::print_all_pats g l = 4 * goal.size-pattern::print_all_pats g l + 2

-- ---- how far a list is printed

abbrev pub invariant-expr::print_all-loop-expr : goal.invariant-expr::print_all-loop-expr
invariant-expr::print_all-loop-expr g l = Goes (more_exprs l.names) (g.G.Sink.seen l.initial.sink) l.initial.so_far l.rest l.expr-index (g.G.Sink.seen l.sink) l.so_far

abbrev pub invariant-expr::print_steps-loop-step : goal.invariant-expr::print_steps-loop-step
invariant-expr::print_steps-loop-step g l = Goes (all_steps l.names) (g.G.Sink.seen l.fn.sink) l.fn.so_far l.steps l.step-index (g.G.Sink.seen l.sink) l.so_far

abbrev pub invariant-expr::print_defs-loop-def : goal.invariant-expr::print_defs-loop-def
invariant-expr::print_defs-loop-def g l = Goes (all_defs l.names) (g.G.Sink.seen l.fn.sink) l.fn.so_far l.defs l.def-index (g.G.Sink.seen l.sink) l.so_far

abbrev pub invariant-clause::print_clauses-loop-clause : goal.invariant-clause::print_clauses-loop-clause
invariant-clause::print_clauses-loop-clause g l = Goes (all_clauses l.names) (g.G.Sink.seen l.fn.sink) l.fn.so_far l.clauses l.clause-index (g.G.Sink.seen l.sink) l.so_far

abbrev pub invariant-segment::print_segments-loop-segment : goal.invariant-segment::print_segments-loop-segment
invariant-segment::print_segments-loop-segment g l = Goes (more_segments l.names) (g.G.Sink.seen l.initial.sink) l.initial.so_far l.rest l.segment-index (g.G.Sink.seen l.sink) l.so_far

abbrev pub invariant-segment::print_pat_segments-loop-segment : goal.invariant-segment::print_pat_segments-loop-segment
invariant-segment::print_pat_segments-loop-segment g l = Goes (more_pat_segments l.names) (g.G.Sink.seen l.initial.sink) l.initial.so_far l.rest l.segment-index (g.G.Sink.seen l.sink) l.so_far

abbrev pub invariant-pattern::print_all_pats-loop-pat : goal.invariant-pattern::print_all_pats-loop-pat
invariant-pattern::print_all_pats-loop-pat g l = Goes (more_pats l.names) (g.G.Sink.seen l.initial.sink) l.initial.so_far l.rest l.pat-index (g.G.Sink.seen l.sink) l.so_far

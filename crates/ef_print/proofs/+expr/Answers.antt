use Rattle.std.proofs.Common.{◌≡◌, rules, arith, ap, to_z, of_z}
use mir.Syntax.{w128}
use Rattle.std.proofs.lemmas.Int.{ints}
use Rattle.ef_core.specs.Laws.{plain_bin, plain_letrec, plain_try, plain_pat_tuple, plain_pat_items, plain_pat_alias, plain_pat_bin}
use Rattle.ef_core.specs.Layout.{all_pieces, segments_pieces, pat_segments_pieces, all_pat_pieces}
use Rattle.ef_core.specs.Plain.{plain, plain_all, plain_segments, plain_pat_segments, plain_pats}
use Rattle.ef_core.specs.declared.tree.CoreExpr.TheFolds.{the_lemmas}
use Rattle.ef_core.proofs.tree.CoreExpr.TheLaws as expr
use Rattle.ef_core.proofs.tree.CorePat.TheLaws as pat
use Rattle.ef_core.proofs.tree.LetStep.TheLaws as step
use Rattle.ef_core.proofs.tree.CoreDef.TheLaws as def
use Rattle.ef_core.proofs.tree.CoreClause.TheLaws as clause
use Rattle.ef_core.proofs.tree.CoreSegment.TheLaws as segment
use Rattle.ef_core.proofs.tree.CorePatSegment.TheLaws as pat_segment
use Rattle.ef_print.proofs.Lists.{goes_more, goes_end, from_first, named_at, named_behind, item_falls, behind_falls}
use Rattle.ef_print.proofs.Parts.{more_exprs, all_steps, all_defs, all_clauses, more_segments, more_pat_segments, more_pats, many_values, many_pats, letrec_named, two_branches}
use Rattle.ef_print.proofs.Written.{◌▸◌, prints_as}
use Rattle.ef_print.proofs.+expr.Goals as goal

pub expr::print_expr-returns-in-Bin-clause-prints : goal.expr::print_expr-returns-in-Bin-clause-prints
expr::print_expr-returns-in-Bin-clause-prints g t c =
    rw (c.in-Bin.is, plain_bin, ← c.deref-in-Bin.ensures.value) c.print_bin.ensures.prints

pub expr::print_expr-returns-in-Letrec-clause-prints : goal.expr::print_expr-returns-in-Letrec-clause-prints
expr::print_expr-returns-in-Letrec-clause-prints g t c =
    rw (c.in-Letrec.is, plain_letrec, ← c.deref-in-Letrec.ensures.value, ← c.deref-in-Letrec-2.ensures) c.print_letrec.ensures.prints

pub expr::print_expr-returns-in-Try-clause-prints : goal.expr::print_expr-returns-in-Try-clause-prints
expr::print_expr-returns-in-Try-clause-prints g t c =
    rw (c.in-Try.is, plain_try, ← c.deref-in-Try.ensures, ← c.deref-in-Try-2.ensures.value, ← c.deref-in-Try-3.ensures, ← c.deref-in-Try-4.ensures.value, ← c.deref-in-Try-5.ensures)
    (prints_as (two_branches c.args.names.now (plain c.deref-in-Try.result.now) c.deref-in-Try-2.result.now (plain c.deref-in-Try-3.result.now) c.deref-in-Try-4.result.now (plain c.deref-in-Try-5.result.now))
    (c.print_word-so_far.ensures.prints ▸ c.print_expr-so_far.ensures.prints ▸ c.print_branch-so_far.ensures.prints ▸ c.print_branch.ensures.prints))

pub expr::print_fun-returns-clause-prints : goal.expr::print_fun-returns-clause-prints
expr::print_fun-returns-clause-prints g t c =
    c.print_params-so_far.ensures.prints ▸ c.print_expr.ensures.prints

pub expr::print_values-returns-clause-prints : goal.expr::print_values-returns-clause-prints
expr::print_values-returns-clause-prints g t c =
    prints_as (many_values c.args.names.now c.args.values.now (λ one. c.if-values-eq1.false one))
    (c.print_symbol-so_far.ensures.prints ▸ c.print_all-so_far.ensures.prints ▸ c.print_symbol.ensures.prints)

pub expr::print_tuple-returns-clause-prints : goal.expr::print_tuple-returns-clause-prints
expr::print_tuple-returns-clause-prints g t c =
    c.print_symbol-so_far.ensures.prints ▸ c.print_all-so_far.ensures.prints ▸ c.print_symbol.ensures.prints

pub expr::print_list-returns-in-None-clause-prints : goal.expr::print_list-returns-in-None-clause-prints
expr::print_list-returns-in-None-clause-prints g t c =
    rw (c.in-None.is) (c.print_symbol-so_far.ensures.prints ▸ c.print_all-so_far.ensures.prints ▸ c.print_symbol.ensures.prints)

pub expr::print_list-returns-in-Some-clause-prints : goal.expr::print_list-returns-in-Some-clause-prints
expr::print_list-returns-in-Some-clause-prints g t c =
    rw (c.in-Some.is, ← c.deref.ensures)
    (c.print_symbol-so_far.ensures.prints ▸ (c.print_all-so_far.ensures.prints ▸ c.print_symbol-so_far-in-Some.ensures.prints
    ▸ c.print_expr-so_far.ensures.prints) ▸ c.print_symbol-in-Some.ensures.prints)

pub expr::print_all-print_expr-so_far-requires-in-loop-expr : goal.expr::print_all-print_expr-so_far-requires-in-loop-expr
expr::print_all-print_expr-so_far-requires-in-loop-expr g t c =
    let named = named_behind (more_exprs c.args.names.now) c.args.exprs.now _ _ c.requires.named c.loop-expr-test.true c.expr-item.is in
    λ ks lives. (behind_falls expr.the_size _ _ _ _ _ _ t c.loop-expr-test.true c.expr-item.is c.decreases (omega arith), (search rules, (c.print_symbol-so_far.ensures.is_open, named)))

pub expr::print_all-loop-expr-preserved : goal.expr::print_all-loop-expr-preserved
expr::print_all-loop-expr-preserved g t c =
    goes_more c.loop-expr.invariant _ c.loop-expr-test.true c.expr-item.is
    (c.print_symbol-so_far.ensures.prints ▸ c.print_expr-so_far-in-loop-expr.ensures.prints) c.print_expr-so_far-in-loop-expr.ensures.is_open

pub expr::print_all-returns-after-loop-expr-clause-prints : goal.expr::print_all-returns-after-loop-expr-clause-prints
expr::print_all-returns-after-loop-expr-clause-prints g t c =
    prints_as (ap (λ l. all_pieces c.args.names.now (plain_all l)) (from_first _ _ c.in-len1-up.len_at_least c.first-item.is))
    (c.print_expr-so_far.ensures.prints ▸ goes_end c.loop-expr.invariant c.loop-expr-test.false)

pub expr::print_bin-returns-clause-prints : goal.expr::print_bin-returns-clause-prints
expr::print_bin-returns-clause-prints g t c =
    c.print_symbol-so_far.ensures.prints ▸ c.print_segments-so_far.ensures.prints ▸ c.print_symbol.ensures.prints

pub expr::print_lets-returns-clause-prints : goal.expr::print_lets-returns-clause-prints
expr::print_lets-returns-clause-prints g t c =
    c.print_steps-so_far.ensures.prints ▸ c.print_expr.ensures.prints

pub expr::print_steps-print_step-so_far-requires : goal.expr::print_steps-print_step-so_far-requires
expr::print_steps-print_step-so_far-requires g t c =
    let named = named_at (all_steps c.args.names.now) c.args.steps.now _ _ c.requires.named c.loop-step-test.true c.step-item.is in
    λ ks lives. (item_falls step.the_size _ _ _ _ _ _ t c.loop-step-test.true c.step-item.is c.decreases (omega arith), (search rules, (c.loop-step.invariant.is_open, named)))

pub expr::print_steps-loop-step-preserved : goal.expr::print_steps-loop-step-preserved
expr::print_steps-loop-step-preserved g t c =
    goes_more c.loop-step.invariant _ c.loop-step-test.true c.step-item.is c.print_step-so_far.ensures.prints c.print_step-so_far.ensures.is_open

pub expr::print_steps-returns-clause-prints : goal.expr::print_steps-returns-clause-prints
expr::print_steps-returns-clause-prints g t c =
    goes_end c.loop-step.invariant c.loop-step-test.false

pub expr::print_step-returns-clause-prints : goal.expr::print_step-returns-clause-prints
expr::print_step-returns-clause-prints g t c =
    rw (← c.deref.ensures.value)
    (c.print_word-so_far.ensures.prints ▸ c.print_vars-so_far.ensures.prints ▸ c.print_symbol-so_far.ensures.prints
    ▸ c.print_expr-so_far.ensures.prints ▸ c.print_word-so_far-2.ensures.prints ▸ (c.print_break.ensures _))

pub expr::print_letrec-print_defs-so_far-requires : goal.expr::print_letrec-print_defs-so_far-requires
expr::print_letrec-print_defs-so_far-requires g t c =
    let named = letrec_named c.args.names.now _ _ c.requires.named in
    λ ks lives. (search (rules, the_lemmas), (search rules, (c.print_word-so_far.ensures.is_open, named)))

pub expr::print_letrec-returns-clause-prints : goal.expr::print_letrec-returns-clause-prints
expr::print_letrec-returns-clause-prints g t c =
    c.print_word-so_far.ensures.prints ▸ c.print_defs-so_far.ensures.prints ▸ c.print_word-so_far-2.ensures.prints
    ▸ (c.print_break-so_far.ensures _) ▸ c.print_expr.ensures.prints

pub expr::print_defs-print_def-so_far-requires : goal.expr::print_defs-print_def-so_far-requires
expr::print_defs-print_def-so_far-requires g t c =
    let named = named_at (all_defs c.args.names.now) c.args.defs.now _ _ c.requires.named c.loop-def-test.true c.def-item.is in
    λ ks lives. (item_falls def.the_size _ _ _ _ _ _ t c.loop-def-test.true c.def-item.is c.decreases (omega arith), (search rules, (c.loop-def.invariant.is_open, named)))

pub expr::print_defs-loop-def-preserved : goal.expr::print_defs-loop-def-preserved
expr::print_defs-loop-def-preserved g t c =
    goes_more c.loop-def.invariant _ c.loop-def-test.true c.def-item.is c.print_def-so_far.ensures.prints c.print_def-so_far.ensures.is_open

pub expr::print_defs-returns-clause-prints : goal.expr::print_defs-returns-clause-prints
expr::print_defs-returns-clause-prints g t c =
    goes_end c.loop-def.invariant c.loop-def-test.false

pub expr::print_def-returns-clause-prints : goal.expr::print_def-returns-clause-prints
expr::print_def-returns-clause-prints g t c =
    rw (← c.deref.ensures.value)
    (c.print_fname-so_far.ensures.prints ▸ c.print_symbol-so_far.ensures.prints ▸ c.print_params-so_far.ensures.prints ▸ c.print_expr.ensures.prints)

pub expr::print_case-returns-clause-prints : goal.expr::print_case-returns-clause-prints
expr::print_case-returns-clause-prints g t c =
    c.print_word-so_far.ensures.prints ▸ c.print_expr-so_far.ensures.prints ▸ c.print_word-so_far-2.ensures.prints
    ▸ c.print_clauses-so_far.ensures.prints ▸ c.print_word.ensures.prints

pub expr::print_do-returns-clause-prints : goal.expr::print_do-returns-clause-prints
expr::print_do-returns-clause-prints g t c =
    c.print_word-so_far.ensures.prints ▸ c.print_expr-so_far.ensures.prints ▸ c.print_expr.ensures.prints

pub expr::print_receive-returns-clause-prints : goal.expr::print_receive-returns-clause-prints
expr::print_receive-returns-clause-prints g t c =
    c.print_word-so_far.ensures.prints ▸ c.print_clauses-so_far.ensures.prints ▸ c.print_word-so_far-2.ensures.prints
    ▸ c.print_expr-so_far.ensures.prints ▸ c.print_symbol-so_far.ensures.prints ▸ c.print_expr.ensures.prints

pub expr::print_branch-returns-clause-prints : goal.expr::print_branch-returns-clause-prints
expr::print_branch-returns-clause-prints g t c =
    c.print_word-so_far.ensures.prints ▸ c.print_vars-so_far.ensures.prints ▸ c.print_symbol-so_far.ensures.prints ▸ c.print_expr.ensures.prints

pub call::print_apply-returns-clause-prints : goal.call::print_apply-returns-clause-prints
call::print_apply-returns-clause-prints g t c =
    c.print_word-so_far.ensures.prints ▸ c.print_expr-so_far.ensures.prints ▸ c.print_args.ensures.prints

pub call::print_call-returns-clause-prints : goal.call::print_call-returns-clause-prints
call::print_call-returns-clause-prints g t c =
    c.print_word-so_far.ensures.prints ▸ c.print_expr-so_far.ensures.prints ▸ c.print_symbol-so_far.ensures.prints
    ▸ c.print_expr-so_far-2.ensures.prints ▸ c.print_args.ensures.prints

pub call::print_primop-returns-clause-prints : goal.call::print_primop-returns-clause-prints
call::print_primop-returns-clause-prints g t c =
    c.print_word-so_far.ensures.prints ▸ c.print_atom-so_far.ensures.prints ▸ c.print_args.ensures.prints

pub call::print_args-returns-clause-prints : goal.call::print_args-returns-clause-prints
call::print_args-returns-clause-prints g t c =
    c.print_symbol-so_far.ensures.prints ▸ c.print_all-so_far.ensures.prints ▸ c.print_symbol.ensures.prints

pub clause::print_clauses-print_clause-so_far-requires : goal.clause::print_clauses-print_clause-so_far-requires
clause::print_clauses-print_clause-so_far-requires g t c =
    let named = named_at (all_clauses c.args.names.now) c.args.clauses.now _ _ c.requires.named c.loop-clause-test.true c.clause-item.is in
    λ ks lives. (item_falls clause.the_size _ _ _ _ _ _ t c.loop-clause-test.true c.clause-item.is c.decreases (omega arith), (search rules, (c.loop-clause.invariant.is_open, (named.0, (named.1, named.2)))))

pub clause::print_clauses-loop-clause-preserved : goal.clause::print_clauses-loop-clause-preserved
clause::print_clauses-loop-clause-preserved g t c =
    goes_more c.loop-clause.invariant _ c.loop-clause-test.true c.clause-item.is c.print_clause-so_far.ensures.prints c.print_clause-so_far.ensures.is_open

pub clause::print_clauses-returns-clause-prints : goal.clause::print_clauses-returns-clause-prints
clause::print_clauses-returns-clause-prints g t c =
    goes_end c.loop-clause.invariant c.loop-clause-test.false

pub clause::print_clause-returns-clause-prints : goal.clause::print_clause-returns-clause-prints
clause::print_clause-returns-clause-prints g t c =
    rw (← c.deref.ensures.value)
    ((c.print_break-so_far.ensures _) ▸ c.print_pats-so_far.ensures.prints ▸ c.print_word-so_far.ensures.prints ▸ c.print_expr-so_far.ensures.prints
    ▸ c.print_symbol-so_far.ensures.prints ▸ c.print_expr.ensures.prints)

pub segment::print_segments-print_segment-so_far-requires-in-loop-segment : goal.segment::print_segments-print_segment-so_far-requires-in-loop-segment
segment::print_segments-print_segment-so_far-requires-in-loop-segment g t c =
    let named = named_behind (more_segments c.args.names.now) c.args.segments.now _ _ c.requires.named c.loop-segment-test.true c.segment-item.is in
    λ ks lives. (behind_falls segment.the_size _ _ _ _ _ _ t c.loop-segment-test.true c.segment-item.is c.decreases (omega arith), (search rules, (c.print_symbol-so_far.ensures.is_open, named)))

pub segment::print_segments-loop-segment-preserved : goal.segment::print_segments-loop-segment-preserved
segment::print_segments-loop-segment-preserved g t c =
    goes_more c.loop-segment.invariant _ c.loop-segment-test.true c.segment-item.is
    (c.print_symbol-so_far.ensures.prints ▸ c.print_segment-so_far-in-loop-segment.ensures.prints) c.print_segment-so_far-in-loop-segment.ensures.is_open

pub segment::print_segments-returns-after-loop-segment-clause-prints : goal.segment::print_segments-returns-after-loop-segment-clause-prints
segment::print_segments-returns-after-loop-segment-clause-prints g t c =
    prints_as (ap (λ l. segments_pieces c.args.names.now (plain_segments l)) (from_first _ _ c.in-len1-up.len_at_least c.first-item.is))
    (c.print_segment-so_far.ensures.prints ▸ goes_end c.loop-segment.invariant c.loop-segment-test.false)

pub segment::print_segment-returns-clause-prints : goal.segment::print_segment-returns-clause-prints
segment::print_segment-returns-clause-prints g t c =
    rw (← unit_is) ((c.print_symbol-so_far.ensures.prints ▸ c.print_expr-so_far.ensures.prints ▸ c.print_symbol-so_far-2.ensures.prints)
    ▸ (c.print_symbol-so_far-3.ensures.prints ▸ (c.print_expr-so_far-2.ensures.prints ▸ c.print_form-so_far.ensures.prints) ▸ c.print_symbol.ensures.prints))
  where
    unit_is : to_z w128 (of_z w128 c.args.segment.now.unit) ≡ c.args.segment.now.unit
    unit_is = omega (arith, ints)

pub segment::print_pat_segments-print_pat_segment-so_far-requires-in-loop-segment : goal.segment::print_pat_segments-print_pat_segment-so_far-requires-in-loop-segment
segment::print_pat_segments-print_pat_segment-so_far-requires-in-loop-segment g t c =
    let named = named_behind (more_pat_segments c.args.names.now) c.args.segments.now _ _ c.requires.named c.loop-segment-test.true c.segment-item.is in
    λ ks lives. (behind_falls pat_segment.the_size _ _ _ _ _ _ t c.loop-segment-test.true c.segment-item.is c.decreases (omega arith), (search rules, (c.print_symbol-so_far.ensures.is_open, named)))

pub segment::print_pat_segments-loop-segment-preserved : goal.segment::print_pat_segments-loop-segment-preserved
segment::print_pat_segments-loop-segment-preserved g t c =
    goes_more c.loop-segment.invariant _ c.loop-segment-test.true c.segment-item.is
    (c.print_symbol-so_far.ensures.prints ▸ c.print_pat_segment-so_far-in-loop-segment.ensures.prints) c.print_pat_segment-so_far-in-loop-segment.ensures.is_open

pub segment::print_pat_segments-returns-after-loop-segment-clause-prints : goal.segment::print_pat_segments-returns-after-loop-segment-clause-prints
segment::print_pat_segments-returns-after-loop-segment-clause-prints g t c =
    prints_as (ap (λ l. pat_segments_pieces c.args.names.now (plain_pat_segments l)) (from_first _ _ c.in-len1-up.len_at_least c.first-item.is))
    (c.print_pat_segment-so_far.ensures.prints ▸ goes_end c.loop-segment.invariant c.loop-segment-test.false)

pub segment::print_pat_segment-returns-clause-prints : goal.segment::print_pat_segment-returns-clause-prints
segment::print_pat_segment-returns-clause-prints g t c =
    rw (← unit_is) ((c.print_symbol-so_far.ensures.prints ▸ c.print_pat-so_far.ensures.prints ▸ c.print_symbol-so_far-2.ensures.prints)
    ▸ (c.print_symbol-so_far-3.ensures.prints ▸ (c.print_expr-so_far.ensures.prints ▸ c.print_form-so_far.ensures.prints) ▸ c.print_symbol.ensures.prints))
  where
    unit_is : to_z w128 (of_z w128 c.args.segment.now.unit) ≡ c.args.segment.now.unit
    unit_is = omega (arith, ints)

pub pattern::print_pat-returns-in-Tuple-clause-prints : goal.pattern::print_pat-returns-in-Tuple-clause-prints
pattern::print_pat-returns-in-Tuple-clause-prints g t c =
    rw (c.in-Tuple.is, plain_pat_tuple, ← c.deref.ensures.value)
    (c.print_symbol-so_far.ensures.prints ▸ c.print_all_pats-so_far.ensures.prints ▸ c.print_symbol.ensures.prints)

pub pattern::print_pat-returns-in-None-clause-prints : goal.pattern::print_pat-returns-in-None-clause-prints
pattern::print_pat-returns-in-None-clause-prints g t c =
    rw (c.in-List.is, plain_pat_items, c.in-None.is, ← c.deref-in-List.ensures.value)
    (c.print_symbol-so_far-in-List.ensures.prints ▸ c.print_all_pats-so_far-in-List.ensures.prints ▸ c.print_symbol-in-None.ensures.prints)

pub pattern::print_pat-returns-in-Some-clause-prints : goal.pattern::print_pat-returns-in-Some-clause-prints
pattern::print_pat-returns-in-Some-clause-prints g t c =
    rw (c.in-List.is, plain_pat_items, c.in-Some.is, ← c.deref-in-List.ensures.value, ← c.deref-in-Some.ensures)
    (c.print_symbol-so_far-in-List.ensures.prints ▸ (c.print_all_pats-so_far-in-List.ensures.prints ▸ c.print_symbol-so_far-in-Some.ensures.prints
    ▸ c.print_pat-so_far.ensures.prints) ▸ c.print_symbol-in-Some.ensures.prints)

pub pattern::print_pat-returns-in-Alias-clause-prints : goal.pattern::print_pat-returns-in-Alias-clause-prints
pattern::print_pat-returns-in-Alias-clause-prints g t c =
    rw (c.in-Alias.is, plain_pat_alias, ← c.deref-in-Alias.ensures)
    (c.print_var-so_far.ensures.prints ▸ c.print_symbol-so_far-in-Alias.ensures.prints ▸ c.print_pat.ensures.prints)

pub pattern::print_pat-returns-in-Bin-clause-prints : goal.pattern::print_pat-returns-in-Bin-clause-prints
pattern::print_pat-returns-in-Bin-clause-prints g t c =
    rw (c.in-Bin.is, plain_pat_bin, ← c.deref-in-Bin.ensures.value)
    (c.print_symbol-so_far-in-Bin.ensures.prints ▸ c.print_pat_segments-so_far.ensures.prints ▸ c.print_symbol-in-Bin.ensures.prints)

pub pattern::print_pats-returns-clause-prints : goal.pattern::print_pats-returns-clause-prints
pattern::print_pats-returns-clause-prints g t c =
    prints_as (many_pats c.args.names.now c.args.pats.now (λ one. c.if-pats-eq1.false one))
    (c.print_symbol-so_far.ensures.prints ▸ c.print_all_pats-so_far.ensures.prints ▸ c.print_symbol.ensures.prints)

pub pattern::print_all_pats-print_pat-so_far-requires-in-loop-pat : goal.pattern::print_all_pats-print_pat-so_far-requires-in-loop-pat
pattern::print_all_pats-print_pat-so_far-requires-in-loop-pat g t c =
    let named = named_behind (more_pats c.args.names.now) c.args.pats.now _ _ c.requires.named c.loop-pat-test.true c.pat-item.is in
    λ ks lives. (behind_falls pat.the_size _ _ _ _ _ _ t c.loop-pat-test.true c.pat-item.is c.decreases (omega arith), (search rules, (c.print_symbol-so_far.ensures.is_open, named)))

pub pattern::print_all_pats-loop-pat-preserved : goal.pattern::print_all_pats-loop-pat-preserved
pattern::print_all_pats-loop-pat-preserved g t c =
    goes_more c.loop-pat.invariant _ c.loop-pat-test.true c.pat-item.is
    (c.print_symbol-so_far.ensures.prints ▸ c.print_pat-so_far-in-loop-pat.ensures.prints) c.print_pat-so_far-in-loop-pat.ensures.is_open

pub pattern::print_all_pats-returns-after-loop-pat-clause-prints : goal.pattern::print_all_pats-returns-after-loop-pat-clause-prints
pattern::print_all_pats-returns-after-loop-pat-clause-prints g t c =
    prints_as (ap (λ l. all_pat_pieces c.args.names.now (plain_pats l)) (from_first _ _ c.in-len1-up.len_at_least c.first-item.is))
    (c.print_pat-so_far.ensures.prints ▸ goes_end c.loop-pat.invariant c.loop-pat-test.false)

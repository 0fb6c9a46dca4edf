use Rattle.std.proofs.Common.{rules, arith, ap}
use Rattle.ef_core.specs.Laws.{plain_lit_items, plain_lit_tuple}
use Rattle.ef_core.specs.Layout.{lits_pieces}
use Rattle.ef_core.specs.Plain.{plain_lits}
use Rattle.ef_core.proofs.literal.CoreLit.TheLaws.{the_size}
use Rattle.ef_print.proofs.Lists.{goes_more, goes_end, from_first, named_behind, behind_falls}
use Rattle.ef_print.proofs.Parts.{more_lits}
use Rattle.ef_print.proofs.Written.{◌▸◌, prints_as}
use Rattle.ef_print.proofs.literal.+literal.Goals as goal

pub print_lit-returns-in-None-clause-prints : goal.print_lit-returns-in-None-clause-prints
print_lit-returns-in-None-clause-prints g t c =
    rw (c.in-List.is, plain_lit_items, c.in-None.is, ← c.deref.ensures.value)
    (c.print_symbol-so_far.ensures.prints ▸ c.print_lits-so_far.ensures.prints ▸ c.print_symbol.ensures.prints)

pub print_lit-returns-in-Some-clause-prints : goal.print_lit-returns-in-Some-clause-prints
print_lit-returns-in-Some-clause-prints g t c =
    rw (c.in-List.is, plain_lit_items, c.in-Some.is, ← c.deref.ensures.value, ← c.deref-in-Some.ensures)
    (c.print_symbol-so_far.ensures.prints ▸ (c.print_lits-so_far.ensures.prints ▸ c.print_symbol-so_far-in-Some.ensures.prints
    ▸ c.print_lit-so_far.ensures.prints) ▸ c.print_symbol-in-Some.ensures.prints)

pub print_lit-returns-in-Tuple-clause-prints : goal.print_lit-returns-in-Tuple-clause-prints
print_lit-returns-in-Tuple-clause-prints g t c =
    rw (c.in-Tuple.is, plain_lit_tuple, ← c.deref-in-Tuple.ensures.value)
    (c.print_symbol-so_far-in-Tuple.ensures.prints ▸ c.print_lits-so_far-in-Tuple.ensures.prints ▸ c.print_symbol-in-Tuple.ensures.prints)

pub print_lits-print_lit-so_far-requires-in-loop-literal : goal.print_lits-print_lit-so_far-requires-in-loop-literal
print_lits-print_lit-so_far-requires-in-loop-literal g t c =
    let named = named_behind (more_lits c.args.names.now) c.args.literals.now _ _ c.requires.named c.loop-literal-test.true c.literal-item.is in
    λ ks lives. (behind_falls the_size _ _ _ _ _ _ t c.loop-literal-test.true c.literal-item.is c.decreases (omega arith), (search rules, (c.print_symbol-so_far.ensures.is_open, named)))

pub print_lits-loop-literal-preserved : goal.print_lits-loop-literal-preserved
print_lits-loop-literal-preserved g t c =
    goes_more c.loop-literal.invariant _ c.loop-literal-test.true c.literal-item.is
    (c.print_symbol-so_far.ensures.prints ▸ c.print_lit-so_far-in-loop-literal.ensures.prints) c.print_lit-so_far-in-loop-literal.ensures.is_open

pub print_lits-returns-after-loop-literal-clause-prints : goal.print_lits-returns-after-loop-literal-clause-prints
print_lits-returns-after-loop-literal-clause-prints g t c =
    prints_as (ap (λ ls. lits_pieces c.args.names.now (plain_lits ls)) (from_first _ _ c.in-len1-up.len_at_least c.first-item.is))
    (c.print_lit-so_far.ensures.prints ▸ goes_end c.loop-literal.invariant c.loop-literal-test.false)

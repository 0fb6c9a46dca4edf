use Rattle.std.proofs.Common.{arith, sym, ◌∙◌}
use Rattle.std.proofs.lemmas.List.{get_or_read}
use Rattle.ef_scan.proofs.Codings.{word_none, word_more, word_other}
use Rattle.ef_scan.proofs.coding.after_word.Goals as goal

pub loop-c-init : goal.loop-c-init
loop-c-init c = word_none c.args.in_any_case c.args.at c.args.word.now c.requires

pub returns-then-letter-c-clause-none : goal.returns-then-letter-c-clause-none
returns-then-letter-c-clause-none c =
    word_other c.args.in_any_case c.args.at c.loop-c.behind c.in_ok-step.step.1 c.args.word.now c.loop-c.c-index c.in_ok-step.step.0 c.c-item.result c.loop-c.invariant (omega arith) c.in_ok-step.ensures.some
    (λ e. c.if-letter-c.true (c.letter.ensures ∙ e)) (get_or_read c.args.word.now _ _ (omega arith) c.c-item.is 0)

pub loop-c-preserved : goal.loop-c-preserved
loop-c-preserved c =
    word_more c.args.in_any_case c.args.at c.loop-c.behind c.in_ok-step.step.1 c.args.word.now c.loop-c.c-index c.in_ok-step.step.0 c.c-item.result c.loop-c.invariant (omega arith) c.in_ok-step.ensures.some
    (sym c.letter.ensures ∙ c.if-letter-c.false) (get_or_read c.args.word.now _ _ (omega arith) c.c-item.is 0)

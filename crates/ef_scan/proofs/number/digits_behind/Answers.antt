use Rattle.std.proofs.Common.{subst, sym}
use Rattle.std.specs.Prelude.{ℕ, Some}
use Rattle.ef_scan.proofs.Numerals.{Numbered, numbered_first, numbered_more, numbered_all, next_shorter}
use Rattle.ef_scan.proofs.number.digits_behind.Goals as goal

pub loop-found-init : goal.loop-found-init
loop-found-init c = λ start digit.
    subst (λ (v : ℕ). Numbered c.args.base start c.args.at (Some v)) (sym c.from.ensures) (numbered_first c.args.base c.args.first start c.args.at c.requires.most digit)

pub loop-found-preserved : goal.loop-found-preserved
loop-found-preserved c = λ start digit.
    numbered_more c.args.base c.in-Some.found.0 start c.loop-found.behind c.in-Some.found.1 c.loop-found.value c.with_digit-value.result c.requires.most (c.loop-found.invariant start digit)
    c.in-Some.ensures.some c.with_digit-value.ensures

pub next-requires-clause-in_text : goal.next-requires-clause-in_text
next-requires-clause-in_text c = (c.loop-found.invariant c.requires.digit.0 c.requires.digit.1).behind.in_text

pub loop-found-smaller : goal.loop-found-smaller
loop-found-smaller c = next_shorter c.args.base c.in-Some.found.0 c.loop-found.behind c.in-Some.found.1 c.in-Some.ensures.some

pub returns : goal.returns
returns c = λ start digit. numbered_all c.args.base start (record { value = c.loop-found.value; behind = c.loop-found.behind }) (c.loop-found.invariant start digit) c.in_default.ensures.none

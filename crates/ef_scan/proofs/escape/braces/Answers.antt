use Rattle.ef_scan.proofs.Escaping.{if_none, hex_first, hex_more, braces_none, braces_end, braces_open, braces_beyond, braces_some}
use Rattle.ef_token.proofs.Escaped.{scalar_character, character_scalar}
use Rattle.ef_scan.proofs.escape.braces.Goals as goal

pub returns-in_err-first-clause-none : goal.returns-in_err-first-clause-none
returns-in_err-first-clause-none c = if_none c.from_residual.result (braces_none c.args.at c.in_err-first.ensures.none)

pub loop-found-init : goal.loop-found-init
loop-found-init c = hex_first c.args.at c.in_ok-first.first.1 c.in_ok-first.first.0 c.in_ok-first.ensures.some

pub loop-found-preserved : goal.loop-found-preserved
loop-found-preserved c =
    hex_more c.args.at c.loop-found.behind c.in-Some.found.1 c.loop-found.value c.in-Some.found.0 c.with_digit-value.result c.loop-found.invariant c.in-Some.ensures.some c.with_digit-value.ensures

pub returns-in_err-close-clause-none : goal.returns-in_err-close-clause-none
returns-in_err-close-clause-none c =
    if_none c.from_residual-in_err-close.result (braces_end c.args.at c.loop-found.behind c.loop-found.value c.loop-found.invariant c.in_default.ensures.none c.in_err-close.ensures.none)

pub returns-then-close-ne125-clause-none : goal.returns-then-close-ne125-clause-none
returns-then-close-ne125-clause-none c =
    braces_open c.args.at c.loop-found.behind c.in_ok-close.close.1 c.loop-found.value c.in_ok-close.close.0 c.loop-found.invariant c.in_default.ensures.none c.in_ok-close.ensures.some c.if-close-ne125.true

pub returns-in_err-c-clause-none : goal.returns-in_err-c-clause-none
returns-in_err-c-clause-none c =
    if_none c.from_residual-in_err-c.result (braces_beyond c.args.at c.loop-found.behind c.loop-found.value c.loop-found.invariant c.in_default.ensures.none (λ is. c.in_err-c.ensures.value (character_scalar c.loop-found.value is)))

pub returns-clause-some : goal.returns-clause-some
returns-clause-some c =
    braces_some c.args.at c.loop-found.behind c.in_ok-close.close.1 c.loop-found.value c.in_ok-c.c c.in_ok-close.close.0 c.loop-found.invariant c.in_ok-close.ensures.some c.if-close-ne125.false (scalar_character c.loop-found.value c.in_ok-c.ensures.value.0) c.in_ok-c.ensures.value.1

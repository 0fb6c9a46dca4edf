use Rattle.ef_scan.proofs.Escaping.{if_none, one_not_hex, two_not_hex, two_hex}
use Rattle.std.specs.Prelude.{chars}
use Rattle.ef_scan.proofs.escape.two_digits.Goals as goal

pub returns-in_err-first-clause-none : goal.returns-in_err-first-clause-none
returns-in_err-first-clause-none c = if_none c.from_residual.result (one_not_hex (chars c.args.at.rest.now) c.requires.no_brace c.in_err-first.ensures.none)

pub returns-in_err-second-clause-none : goal.returns-in_err-second-clause-none
returns-in_err-second-clause-none c =
    if_none c.from_residual-in_err-second.result (two_not_hex c.args.at c.in_ok-first.first.1 c.in_ok-first.first.0 c.requires.no_brace c.in_ok-first.ensures.some c.in_err-second.ensures.none)

pub returns-clause-some : goal.returns-clause-some
returns-clause-some c =
    two_hex c.args.at c.in_ok-first.first.1 c.in_ok-second.second.1 c.in_ok-first.first.0 c.in_ok-second.second.0 c.character.result c.in_ok-first.ensures.some c.in_ok-second.ensures.some c.character.ensures

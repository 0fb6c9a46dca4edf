use Rattle.ef_scan.proofs.Escaping.{octal_one, octal_two, octal_three}
use Rattle.ef_scan.proofs.escape.octal.Goals as goal

pub returns-in_default : goal.returns-in_default
returns-in_default c = λ at h. octal_one at c.args.behind c.args.first c.character.result h c.character.ensures c.in_default.ensures.none

pub returns-in_default-digit : goal.returns-in_default-digit
returns-in_default-digit c = λ at h.
    octal_two at c.args.behind c.in-Some.second.1 c.args.first c.in-Some.second.0 c.character-in_default-digit.result h c.in-Some.ensures.some c.character-in_default-digit.ensures
    c.in_default-digit.ensures.none

pub returns : goal.returns
returns c = λ at h.
    octal_three at c.args.behind c.in-Some.second.1 c.in-Some-digit.third.1 c.args.first c.in-Some.second.0 c.character-2.result c.in-Some-digit.third.0 h c.in-Some.ensures.some c.in-Some-digit.ensures.some
    c.character-2.ensures

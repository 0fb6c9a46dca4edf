use Rattle.ef_token.specs.Numerals.{value_of}
use Rattle.ef_scan.proofs.Integers.{base_fault, digit_fault, based_at}
use Rattle.ef_scan.proofs.integer.based.Goals as goal

pub returns-in_default : goal.returns-in_default
returns-in_default c = λ first h step. base_fault first c.args.behind c.args.number h step c.in_default.ensures.none

pub returns-in_default-numeral : goal.returns-in_default-numeral
returns-in_default-numeral c = λ first h step.
    digit_fault first c.args.behind c.args.number c.in-Some.base h step c.in-Some.ensures.some.0 c.in-Some.ensures.some.1 c.in_default-numeral.ensures.none

pub returns : goal.returns
returns c = λ first h step.
    let k = c.in-Some-numeral.ensures.some in
    c.valued.ensures first (value_of c.in-Some.base k.front) (based_at first c.args.behind c.args.number c.in-Some-numeral.digits c.in-Some.base h k step c.in-Some.ensures.some.0 c.in-Some.ensures.some.1) k.value

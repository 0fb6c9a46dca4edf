use Rattle.ef_token.specs.Numerals.{value_of}
use Rattle.ef_scan.proofs.Integers.{fraction_fault, decimal_at, not_after}
use Rattle.ef_scan.proofs.integer.integer.Goals as goal

pub returns-then-begins_fraction : goal.returns-then-begins_fraction
returns-then-begins_fraction c = λ first h. fraction_fault first c.args.number h (not_after _ _ c.in_default.ensures.none) (c.begins_fraction.ensures.0 c.if-begins_fraction.true)

pub returns : goal.returns
returns c = λ first h.
    c.valued.ensures first (value_of 10 h.front)
    (decimal_at first c.args.number h (not_after _ _ c.in_default.ensures.none) (λ f. let yes = c.begins_fraction.ensures.1 f in let no = c.if-begins_fraction.false in cc (yes, no))) h.value

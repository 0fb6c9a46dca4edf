use Rattle.std.proofs.Common.{◌*ℤ◌, ⊎_elim, ap, subst₂}
use Rattle.std.proofs.lemmas.Int.{to_z-of_z}
use Rattle.std.specs.Int.{w128, cast_unsigned}
use Rattle.std.specs.Option.{SomeIff}
use Rattle.std.specs.Prelude.{FitsSigned}
use Rattle.ef_cond.proofs.Powers.{power, shifted_out}
use Rattle.ef_cond.proofs.shifts.times_power.Goals as goal

pub returns-then-count-lt127 : goal.returns-then-count-lt127
returns-then-count-lt127 c =
    subst₂ (λ x y. SomeIff c.checked_mul.result (FitsSigned w128 (x *ℤ y)) (x *ℤ y)) (to_z-of_z w128 c.args.number c.ranges.number) (power c.args.count c.if-count-lt127.true) c.checked_mul.ensures

pub returns : goal.returns
returns c =
    shifted_out c.args.number c.args.count (λ e. c.if-number-eq0.false (ap (cast_unsigned w128) e)) c.if-count-lt127.false
    (λ top e. ⊎_elim (λ p. p.1 (ap (cast_unsigned w128) e)) (λ other. other top) c.else-count-eq127.either)

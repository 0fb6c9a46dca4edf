use Rattle.std.proofs.Common.{arith}
use Rattle.ef_base.proofs.HexDigits.{all_left, one_written, last_written}
use Rattle.ef_base.proofs.escape.hex_digits.Goals as goal

pub loop-rest-init : goal.loop-rest-init
loop-rest-init c = all_left c.args.code c.of-text.result c.ranges.code.fits c.of-text.ensures

pub loop-rest-preserved : goal.loop-rest-preserved
loop-rest-preserved c =
    one_written c.args.code c.loop-rest.rest c.hex_digit.result c.loop-rest.text c.put_first.new.self c.loop-rest-test.true c.hex_digit.ensures c.put_first.ensures
    c.loop-rest.invariant

pub returns-clause-digits : goal.returns-clause-digits
returns-clause-digits c =
    last_written c.args.code c.loop-rest.rest c.hex_digit-2.result c.loop-rest.text c.put_first-2.new.self (omega arith) c.hex_digit-2.ensures c.put_first-2.ensures
    c.loop-rest.invariant

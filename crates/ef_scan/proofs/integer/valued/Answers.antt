use Rattle.ef_scan.proofs.Integers.{value_found, value_large}
use Rattle.ef_scan.proofs.integer.valued.Goals as goal

pub returns-in-Some : goal.returns-in-Some
returns-in-Some c = λ first n h is. value_found first c.args.behind c.args.value n c.in-Some.value h is c.in-Some.is

pub returns-in-None : goal.returns-in-None
returns-in-None c = λ first n h is. value_large first c.args.behind c.args.value n h is c.in-None.is

use Rattle.std.proofs.Common.{arith, refl}
use Rattle.ef_token.specs.Lexeme as x
use Rattle.ef_scan.proofs.Verdicts.{atom_found, atom_long}
use Rattle.ef_scan.proofs.lexeme.atom_of.Goals as goal

pub returns-then-len-gt-MAX_ATOM : goal.returns-then-len-gt-MAX_ATOM
returns-then-len-gt-MAX_ATOM c = λ first h. atom_long first c.args.end c.args.found.items h (omega (arith, c.args.found.ok.0))

pub returns : goal.returns
returns c = λ first h. (x.atom c.args.found.items, (refl, omega (arith, c.args.found.ok.0)), atom_found first c.args.end c.args.found.items h (omega (arith, c.args.found.ok.0)))

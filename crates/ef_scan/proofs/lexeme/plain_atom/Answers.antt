use Rattle.std.proofs.Common.{arith}
use Rattle.ef_token.specs.Lexeme as x
use Rattle.ef_scan.proofs.Verdicts.{atom_found, atom_long}
use Rattle.ef_scan.proofs.lexeme.plain_atom.Goals as goal

pub returns-then-count-gt-MAX_ATOM : goal.returns-then-count-gt-MAX_ATOM
returns-then-count-gt-MAX_ATOM c = λ first cs is long h. atom_long first c.args.end cs h (omega arith)

pub returns : goal.returns
returns c = λ first cs is long h. (x.atom cs, (is, omega arith), atom_found first c.args.end cs h (omega arith))

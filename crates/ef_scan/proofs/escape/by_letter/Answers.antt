use Rattle.ef_scan.proofs.Escaping.{other_letter}
use Rattle.ef_scan.proofs.escape.by_letter.Goals as goal

pub returns-clause-some : goal.returns-clause-some
returns-clause-some c = λ at step s. other_letter at c.args.behind c.args.letter c.named.result step s c.if-letter-eq120.false c.if-letter-eq94.false c.named.ensures

use Rattle.ef_scan.proofs.Symbols.{fits_two}
use Rattle.ef_scan.proofs.symbol.begins_two.Goals as goal

pub returns-in-len2-up-clause-some : goal.returns-in-len2-up-clause-some
returns-in-len2-up-clause-some c = fits_two c.args.text.now c.of_two.result c.in-len2-up.len_at_least c.of_two.ensures.some

use Rattle.ef_scan.proofs.Symbols.{fits_one}
use Rattle.ef_scan.proofs.symbol.begins_one.Goals as goal

pub returns-in-len1-up-clause-some : goal.returns-in-len1-up-clause-some
returns-in-len1-up-clause-some c = fits_one c.args.text.now c.of_one.result c.in-len1-up.len_at_least c.of_one.ensures.some

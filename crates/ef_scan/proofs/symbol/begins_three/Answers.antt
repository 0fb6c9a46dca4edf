use Rattle.ef_scan.proofs.Symbols.{fits_three}
use Rattle.ef_scan.proofs.symbol.begins_three.Goals as goal

pub returns-in-len3-up-clause-some : goal.returns-in-len3-up-clause-some
returns-in-len3-up-clause-some c = fits_three c.args.text.now c.of_three.result c.in-len3-up.len_at_least c.of_three.ensures.some

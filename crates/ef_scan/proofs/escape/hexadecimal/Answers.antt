use Rattle.std.specs.Prelude.{chars}
use Rattle.ef_scan.proofs.Escaping.{if_none, nothing_behind_x}
use Rattle.ef_scan.proofs.escape.hexadecimal.Goals as goal

pub returns-in_err-first-clause-none : goal.returns-in_err-first-clause-none
returns-in_err-first-clause-none c = if_none c.from_residual.result (nothing_behind_x (chars c.args.at.rest.now) c.in_err-first.ensures.none)

use Rattle.std.proofs.Common.{rules, refl}
use Rattle.ef_scan.proofs.Gathering.{gathers_none}
use Rattle.ef_scan.proofs.gathered.Gathered.new.Goals as goal

pub returns : goal.returns
returns c = λ all file. gathers_none all file _ (search rules) (search rules) refl

use Rattle.std.proofs.Common.{◌≡◌, take}
use Rattle.ef_core.specs.Env.{NamesDiffer}
use Rattle.ef_forms.specs.Plain.{plain_all}
use Rattle.ef_lowmod.specs.Parameters.{AreParameters, own_names}
use Rattle.ef_lowmod.proofs.function.names_of.Given as goal

abbrev pub invariant-loop-place : goal.invariant-loop-place
invariant-loop-place l = AreParameters (plain_all (take l.place l.patterns)) × (l.env ≡ own_names (plain_all (take l.place l.patterns)) l.params) × NamesDiffer l.env

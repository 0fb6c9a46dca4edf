use Rattle.std.proofs.Common.{◌≡◌, take, map}
use Rattle.std.specs.Prelude.{filter}
use Rattle.ef_lowmod.specs.Exports.{is_other_by}
use Rattle.ef_lowmod.specs.Info.{fname}
use Rattle.ef_lowmod.proofs.exports.exports.Given as goal

abbrev pub invariant-loop-function : goal.invariant-loop-function
invariant-loop-function l = l.all.items ≡ map (λ f. fname f.name f.arity) (filter (is_other_by l.fixed) (take l.function-index l.functions))

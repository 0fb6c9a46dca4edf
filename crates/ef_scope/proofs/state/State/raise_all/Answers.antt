use Rattle.std.proofs.Common.{arith}
use Rattle.std.proofs.lemmas.Grind.{common_steps}
use Rattle.ef_scope.proofs.TrailLaws.{since_then}
use Rattle.ef_scope.proofs.state.State.raise_all.Goals as goal

pub loop-name-preserved : goal.loop-name-preserved
loop-name-preserved c = record {
  marks = λ m least. grind (arith, common_steps, c.loop-name.invariant.marks m least, c.in_ok-raise.ensures.raises m least);
  since = since_then _ _ _ c.loop-name.invariant.since c.in_ok-raise.ensures.since;
}

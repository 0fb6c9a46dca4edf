use Rattle.std.proofs.lemmas.Result.{on_ok_weaker}
use Rattle.ef_scope.proofs.TrailLaws.{since_then}
use Rattle.ef_scope.proofs.state.State.put.Goals as goal

pub returns-clause-since : goal.returns-clause-since
returns-clause-since c = on_ok_weaker c.raise_all-2.result (λ since. since_then _ _ _ c.in_ok-raise_all.ensures.since since) c.raise_all-2.ensures.since

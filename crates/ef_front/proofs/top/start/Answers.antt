use Rattle.std.proofs.Common.{sym, ◌∙◌}
use Rattle.ef_front.proofs.Created.{laid_otherwise}
use Rattle.ef_front.proofs.Told.{prints_usage, refuses_unwritten}
use Rattle.ef_front.proofs.top.start.Goals as goal

pub returns-in-Ok-None-clause-prints : goal.returns-in-Ok-None-clause-prints
returns-in-Ok-None-clause-prints g c =
    prints_usage _ _ _ _ _ c.refuse.result (sym c.in-Ok-None.ensures.job ∙ c.in-Ok-None.field-0-is) c.refuse.ensures.refuses

pub returns-in-Ok-None-clause-laid_out : goal.returns-in-Ok-None-clause-laid_out
returns-in-Ok-None-clause-laid_out g c =
    laid_otherwise c.refuse.result (g.O.Sink.seen c.args.output.now) (refuses_unwritten _ _ c.refuse.result c.refuse.ensures.refuses)

use Rattle.ef_front.specs.Compiled.{text_in}
use Rattle.ef_front.proofs.Created.{creates_delivered, laid_delivered, laid_otherwise, prints_delivered}
use Rattle.ef_front.proofs.Told.{prints_faults, reports_unwritten}
use Rattle.ef_front.proofs.top.run.Goals as goal

pub returns-in-Ok-Module-clause-prints : goal.returns-in-Ok-Module-clause-prints
returns-in-Ok-Module-clause-prints g c =
    prints_delivered c.args.job.now (g.S.Sources.seen c.args.sources.now).files (g.S.Sources.seen c.compile.new.sources).failed (text_in c.in-Ok-Module.lowered)
    (g.O.Sink.seen c.args.output.now) (g.O.Sink.seen c.deliver.new.output) (g.G.Sink.seen c.args.diag.now) (g.G.Sink.seen c.deliver.new.diag) c.deliver.result c.deliver.ensures.delivers

pub returns-in-Ok-Module-clause-creates : goal.returns-in-Ok-Module-clause-creates
returns-in-Ok-Module-clause-creates g c =
    let compiled = rw c.in-Ok-Module.field-0-is at c.in-Ok-Module.ensures.compiled in
    creates_delivered c.args.job.now (g.S.Sources.seen c.args.sources.now).files (text_in c.in-Ok-Module.lowered)
    (g.O.Sink.seen c.args.output.now) (g.O.Sink.seen c.deliver.new.output) (g.G.Sink.seen c.args.diag.now) (g.G.Sink.seen c.deliver.new.diag) c.deliver.result compiled.0 c.deliver.ensures.delivers

pub returns-in-Ok-Module-clause-laid_out : goal.returns-in-Ok-Module-clause-laid_out
returns-in-Ok-Module-clause-laid_out g c =
    let compiled = rw c.in-Ok-Module.field-0-is at c.in-Ok-Module.ensures.compiled in
    laid_delivered c.args.job.now.out (text_in c.in-Ok-Module.lowered)
    (g.O.Sink.seen c.args.output.now) (g.O.Sink.seen c.deliver.new.output) (g.G.Sink.seen c.args.diag.now) (g.G.Sink.seen c.deliver.new.diag) c.deliver.result compiled.1 c.deliver.ensures.delivers

pub returns-in-Ok-Faulty-clause-laid_out : goal.returns-in-Ok-Faulty-clause-laid_out
returns-in-Ok-Faulty-clause-laid_out g c =
    laid_otherwise c.report.result (g.O.Sink.seen c.args.output.now) (reports_unwritten _ _ _ c.report.result c.report.ensures.reports)

pub returns-in-Ok-Faulty-clause-prints : goal.returns-in-Ok-Faulty-clause-prints
returns-in-Ok-Faulty-clause-prints g c =
    let compiled = rw c.in-Ok-Faulty.field-0-is at c.in-Ok-Faulty.ensures.compiled in
    prints_faults _ _ _ _ _ c.in-Ok-Faulty.faults _ compiled.0 compiled.1 c.report.ensures.reports

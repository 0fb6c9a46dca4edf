-- The headline, from what a run does to each object.
use Rattle.std.proofs.Common.{◌≡◌, ◌≢◌, inl, inr, ℕ, List, [], ◌∷◌, refl, Option, None, Some}
use Rattle.ef_base.specs.declared.fault.Fault.{Fault}
use Rattle.ef_io.specs.Sources.{Files, SourcesView}
use Rattle.ef_io.specs.Sink.{SinkView, IsAppended}
use Rattle.ef_io.specs.declared.status.Status.{Status}
use Rattle.ef_io.specs.declared.status.Status.TheVariants as status
use Rattle.ef_front.specs.declared.job.Job.{Job}
use Rattle.ef_front.specs.Lines.{image}
use Rattle.ef_front.specs.Input.{AreFaults, MayBeWritten}
use Rattle.ef_front.specs.Runs.{Prints, Counts}
use Rattle.ef_front.specs.Created.{Creates, IsUncreated}
use Rattle.ef_front.specs.Headline.{Shows, ShowsFaults, AllWorked}

shows_some : (faults : List Fault) (job : Job) (files : Option Files) (output output' diag diag' : SinkView) → faults ≢ [] → IsAppended diag diag' (image job.path faults) → IsUncreated output' → Shows faults job files status.Faults output output' diag diag'
shows_some [] job files output output' diag diag' some printed none = absurd (some refl)
shows_some (fault ∷ faults) job files output output' diag diag' some printed none = (refl, printed, none)

some_none : (job : Job) → Some job ≡ None → ⊥
some_none job is = cc

no_faults : (files : Option Files) (path text : List ℕ) → MayBeWritten files path text → AreFaults files path []
no_faults files path text may = record { content = Some may.source; found = may.found; are = inr (may.small, may.faultless) }

pub headline : (result : Status) (job : Option Job) (files : Option Files) (failed : Option (List ℕ)) (from to : SourcesView) (output output' diag diag' : SinkView) → Prints result job files failed diag diag' → Creates result job files output output' → Counts result from to output.faults output'.faults diag.faults diag'.faults → AllWorked from to output output' diag diag' result → ShowsFaults job files result output output' diag diag'
headline result None files failed from to output output' diag diag' prints creates counts worked = tt
headline status.Written (Some job) files failed from to output output' diag diag' prints creates counts worked =
    ([], no_faults files job.path creates.text creates.may_be, (refl, prints, creates))
headline status.Faults (Some job) files failed from to output output' diag diag' prints creates counts worked =
    (prints.0, prints.2, shows_some prints.0 job files output output' diag diag' prints.1 prints.3 creates)
headline status.Words (Some job) files failed from to output output' diag diag' prints creates counts worked = absurd (some_none job prints.0)
headline status.NoMemory (Some job) files failed from to output output' diag diag' prints creates counts worked = absurd (worked.memory refl)
headline status.ReadFault (Some job) files failed from to output output' diag diag' prints creates counts worked = absurd (worked.read counts.0)
headline status.WriteFault (Some job) files failed from to output output' diag diag' prints creates counts worked =
    elim counts.0 [ inl written ↦ absurd (worked.written written) | inr printed ↦ absurd (worked.printed printed) ]

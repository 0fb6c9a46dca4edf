-- What a run shows where no count rose and memory sufficed.
use Rattle.std.specs.Prelude.{ℕ, List, [], ◌∷◌, ◌≡◌, ◌≢◌, Option, Some, IfSome}
use Rattle.ef_base.specs.declared.fault.Fault.{Fault}
use Rattle.ef_io.specs.Count.{Rose}
use Rattle.ef_io.specs.Sources.{Files, SourcesView}
use Rattle.ef_io.specs.Sink.{SinkView, IsAppended}
use Rattle.ef_io.specs.declared.status.Status.{Status}
use Rattle.ef_io.specs.declared.status.Status.TheVariants as status
use Rattle.ef_front.specs.declared.job.Job.{Job}
use Rattle.ef_front.specs.Lines.{image}
use Rattle.ef_front.specs.Input.{AreFaults}
use Rattle.ef_front.specs.Created.{HoldsText, IsUncreated}

-- the faults are printed and nothing is created; or, without faults, nothing is printed and a text is written
abbrev pub Shows : List Fault → Job → Option Files → Status → SinkView → SinkView → SinkView → SinkView → Type 0
Shows [] job files result output output' diag diag' =
    (result ≡ status.Written) × IsAppended diag diag' [] × HoldsText job files output output'
Shows (fault ∷ faults) job files result output output' diag diag' =
    (result ≡ status.Faults) × IsAppended diag diag' (image job.path (fault ∷ faults)) × IsUncreated output'

-- the faults of the job's file are shown
abbrev pub ShowsFaults : Option Job → Option Files → Status → SinkView → SinkView → SinkView → SinkView → Type 0
ShowsFaults job files result output output' diag diag' =
    IfSome job (λ job. (faults : List Fault) × AreFaults files job.path faults × Shows faults job files result output output' diag diag')

-- no count rose, and memory sufficed
pub record AllWorked (from to : SourcesView) (output output' diag diag' : SinkView) (result : Status) : Type 0 where
  pub read : Rose from.faults to.faults → ⊥
  pub written : Rose output.faults output'.faults → ⊥
  pub printed : Rose diag.faults diag'.faults → ⊥
  pub memory : result ≢ status.NoMemory

-- the faults of a file that is told are one list
abbrev pub HaveOneList : Type 0
HaveOneList =
    (files : Files) (path : List ℕ) (faults others : List Fault) → AreFaults (Some files) path faults → AreFaults (Some files) path others → faults ≡ others

-- What a run prints, and where the counts of faults rise, under each status.
use Rattle.std.specs.Prelude.{ℕ, ◌≤◌, List, [], ◌++◌, ◌≡◌, ◌≢◌, ◌⊎◌, take, Option, None, Some}
use Rattle.ef_base.specs.declared.fault.Fault.{Fault}
use Rattle.ef_io.specs.Count.{Rose}
use Rattle.ef_io.specs.Sources.{Files, SourcesView}
use Rattle.ef_io.specs.Sink.{SinkView, IsAppended}
use Rattle.ef_io.specs.declared.status.Status.{Status}
use Rattle.ef_io.specs.declared.status.Status.TheVariants as status
use Rattle.ef_front.specs.declared.job.Job.{Job}
use Rattle.ef_front.specs.Lines.{usage_line, memory_line, write_line, read_line, image}
use Rattle.ef_front.specs.Input.{AreFaults}

-- a path that a run for this file tries: this path alone
abbrev pub IsTried : List ℕ → List ℕ → Type 0
IsTried path tried = tried ≡ path

-- after what was said, a front part of the line, which is whole where the count did not rise
pub record EndsWith (old new : SinkView) (said line : List ℕ) : Type 0 where
  pub tried : ℕ
  pub appended : IsAppended old new (said ++ take tried line)
  pub whole : (Rose old.faults new.faults → ⊥) → take tried line ≡ line

-- a front part of what status 0, 1 or 2 would print
pub data IsSaid (job : Option Job) (files : Option Files) (said : List ℕ) : Type 0 where
  nothing : said ≡ [] → IsSaid job files said
  of_usage : (n : ℕ) → job ≡ None → said ≡ take n usage_line → IsSaid job files said
  of_faults : (it : Job) (faults : List Fault) (n : ℕ) → job ≡ Some it → AreFaults files it.path faults → said ≡ take n (image it.path faults)
      → IsSaid job files said

-- what is printed under each status
abbrev pub Prints : Status → Option Job → Option Files → Option (List ℕ) → SinkView → SinkView → Type 0
Prints status.Written job files failed old new = IsAppended old new []
Prints status.Faults None files failed old new = ⊥
Prints status.Faults (Some job) files failed old new =
    (faults : List Fault) × (faults ≢ []) × AreFaults files job.path faults × IsAppended old new (image job.path faults)
Prints status.Words job files failed old new = (job ≡ None) × IsAppended old new usage_line
Prints status.NoMemory job files failed old new =
    (said : List ℕ) × IsSaid job files said × EndsWith old new said memory_line
Prints status.ReadFault None files failed old new = ⊥
Prints status.ReadFault (Some job) files failed old new =
    (path : List ℕ) × (failed ≡ Some path) × IsTried job.path path × EndsWith old new [] (read_line path)
Prints status.WriteFault job files failed old new =
    (said : List ℕ) × IsSaid job files said × EndsWith old new said write_line

-- where the counts rose under each status; no count falls
abbrev pub Counts : Status → SourcesView → SourcesView → ℕ → ℕ → ℕ → ℕ → Type 0
Counts status.ReadFault from to output output' diag diag' = Rose from.faults to.faults × (output' ≡ output) × (diag ≤ diag')
Counts status.WriteFault from to output output' diag diag' =
    (Rose output output' ⊎ Rose diag diag') × (to.faults ≡ from.faults) × (output ≤ output') × (diag ≤ diag')
Counts status.NoMemory from to output output' diag diag' = (from.faults ≤ to.faults) × (output' ≡ output) × (diag ≤ diag')
Counts _ from to output output' diag diag' = (to.faults ≡ from.faults) × (output' ≡ output) × (diag' ≡ diag)

-- without a job nothing is read or created, and the answer is status 2 unless `diag` failed or memory ran out
pub record IsIdle (from to : SourcesView) (output output' diag diag' : SinkView) (result : Status) : Type 0 where
  pub nothing_read : to ≡ from
  pub nothing_written : output' ≡ output
  pub answer : (result ≡ status.Words) ⊎ (result ≡ status.NoMemory) ⊎ ((result ≡ status.WriteFault) × Rose diag.faults diag'.faults)

-- What tried lines leave.
use Rattle.std.proofs.Common.{◌≡◌, ◌≢◌, ◌≤◌, inl, inr, ℕ, List, [], length, take, refl, arith, sym, subst, Option, None, Some, Result, Ok, Err}
use Rattle.std.proofs.Math.Seq.{take-length}
use Rattle.ef_io.specs.declared.sink.Failed.{Failed}
use Rattle.ef_io.specs.Count.{Rose}
use Rattle.ef_io.specs.Sink.{SinkView, IsAppended, Puts, HasWriteCause}
use Rattle.ef_io.specs.Laws.{appended_twice}
use Rattle.ef_io.specs.Sources.{Files}
use Rattle.ef_io.specs.declared.status.Status.{Status}
use Rattle.ef_io.specs.declared.status.Status.TheVariants as status
use Rattle.ef_base.specs.declared.fault.Fault.{Fault}
use Rattle.ef_front.specs.declared.job.Job.{Job}
use Rattle.ef_front.specs.Lines.{image, usage_line}
use Rattle.ef_front.specs.Input.{AreFaults}
use Rattle.ef_front.specs.Runs.{EndsWith, Prints, nothing, of_usage, of_faults}
use Rattle.ef_front.specs.Parts.{Reports, Refuses}

pub rose_on : (old mid new : ℕ) → old ≤ mid → Rose old mid → mid ≤ new → Rose old new
rose_on old mid new le (inl above) later = inl (omega arith)
rose_on old mid new le (inr end) later = grind arith

-- a line that was tried once
pub ends_alone : (old new : SinkView) (line : List ℕ) (r : Result Unit Failed) → Puts old new line r → HasWriteCause old new r → EndsWith old new [] line
ends_alone old new line (Ok _) put cause = record {
  tried = length line;
  appended = subst (IsAppended old new) (sym (take-length line)) put;
  whole = λ _. take-length line;
}
ends_alone old new line (Err _) put cause = record {
  tried = put.0;
  appended = put.2;
  whole = λ quiet. absurd (quiet cause.1);
}

-- a text that failed, and then a line that was tried once
pub ends_after : (old mid new : SinkView) (text line : List ℕ) (e : Failed) → Puts old mid text (Err e) → HasWriteCause {T = Unit} old mid (Err e) → EndsWith mid new [] line → mid.faults ≤ new.faults → (n : ℕ) × EndsWith old new (take n text) line
ends_after old mid new text line e put cause ends later = (
  put.0,
  record {
    tried = ends.tried;
    appended = appended_twice old mid new (take put.0 text) (take ends.tried line) put.2 ends.appended;
    whole = λ quiet. absurd (quiet (rose_on old.faults mid.faults new.faults cause.0 cause.1 later));
  },
)

-- what is told of faults
pub prints_faults : (job : Job) (files : Option Files) (failed : Option (List ℕ)) (old new : SinkView) (faults : List Fault) (result : Status) → AreFaults files job.path faults → faults ≢ [] → Reports (image job.path faults) old new result → Prints result (Some job) files failed old new
prints_faults job files failed old new faults status.Faults are some told = (faults, some, are, told.0)
prints_faults job files failed old new faults status.NoMemory are some told = ([], nothing refl, told.0)
prints_faults job files failed old new faults status.WriteFault are some told =
    (take told.0.0 (image job.path faults), of_faults job faults told.0.0 refl are refl, told.0.1)
prints_faults job files failed old new faults status.Written are some told = absurd told
prints_faults job files failed old new faults status.Words are some told = absurd told
prints_faults job files failed old new faults status.ReadFault are some told = absurd told

-- what is told without a job
pub prints_usage : (job : Option Job) (files : Option Files) (failed : Option (List ℕ)) (old new : SinkView) (result : Status) → job ≡ None → Refuses old new result → Prints result job files failed old new
prints_usage job files failed old new status.Words none told = (none, told.0)
prints_usage job files failed old new status.WriteFault none told = (take told.0.0 usage_line, of_usage told.0.0 none refl, told.0.1)
prints_usage job files failed old new status.Faults none told = absurd told
prints_usage job files failed old new status.NoMemory none told = absurd told
prints_usage job files failed old new status.Written none told = absurd told
prints_usage job files failed old new status.ReadFault none told = absurd told

-- neither is a module written
pub reports_unwritten : (lines : List ℕ) (old new : SinkView) (result : Status) → Reports lines old new result → result ≢ status.Written
reports_unwritten lines old new result told is = subst (Reports lines old new) is told

pub refuses_unwritten : (old new : SinkView) (result : Status) → Refuses old new result → result ≢ status.Written
refuses_unwritten old new result told is = subst (Refuses old new) is told

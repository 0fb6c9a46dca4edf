-- What stands in an output that was created, and then written.
use Rattle.std.proofs.Common.{◌≡◌, ◌≤◌, ◌⊎◌, inl, inr, ℕ, List, [], take, refl, sym, ap, ◌∙◌, subst, Option, None, Some, Result, Ok, Err}
use Rattle.std.specs.Prelude.{false, IfSome, ◌≢◌}
use Rattle.ef_io.specs.Count.{Rose}
use Rattle.ef_io.specs.Sink.{SinkView, IsAppended, Creates, HasWriteCause, Stays, with_more}
use Rattle.ef_io.specs.Laws.{printed_none}
use Rattle.ef_io.specs.Sources.{Files}
use Rattle.ef_io.specs.declared.sink.Failed.{Failed}
use Rattle.ef_io.specs.declared.status.Status.{Status}
use Rattle.ef_io.specs.declared.status.Status.TheVariants as status
use Rattle.ef_front.specs.declared.job.Job.{Job}
use Rattle.ef_front.specs.Input.{MayBeWritten}
use Rattle.ef_front.specs.Buffered.{HoldsNone, PutsTold}
use Rattle.ef_front.specs.Created.{told_as, Creates as IsCreatedUnder, IsUncreated, HoldsFront}
use Rattle.ef_front.specs.Printed.{IsLaidOut, IsPrinted}
use Rattle.ef_front.specs.Runs.{Prints, nothing}
use Rattle.ef_front.specs.Parts.{Delivers, Produces}

-- a closed output of these told bytes
abbrev closed : Option (List ℕ) → SinkView
closed written = record { written = written; room = None; faults = 0; is_open = false; created = None }

pub holds_none : (told : Option (List ℕ)) (new : SinkView) (path : List ℕ) → Creates (closed told) new path (Ok tt) → HoldsNone new.written
holds_none None new path made = subst HoldsNone (sym made.2) tt
holds_none (Some bytes) new path made = subst HoldsNone (sym made.2) refl

pub told_after : (told : Option (List ℕ)) (mid : SinkView) (path bytes : List ℕ) (now : Option (List ℕ)) → Creates (closed told) mid path (Ok tt) → now ≡ with_more mid.written bytes → now ≡ told_as told bytes
told_after None mid path bytes now made puts = puts ∙ ap (λ t. with_more t bytes) made.2
told_after (Some held) mid path bytes now made puts = puts ∙ ap (λ t. with_more t bytes) made.2

-- created and then written
pub produces : (out out' text : List ℕ) (old mid new : SinkView) (r : Result Unit Failed) → out' ≡ out → Creates old mid out' (Ok tt) → mid.faults ≡ old.faults → Stays mid new → PutsTold mid new text r → HasWriteCause mid new r → Produces out text old new r
produces out out' text old mid new (Ok _) path made quiet stays puts cause =
    (stays.created ∙ made.1 ∙ ap Some path, told_after old.written mid out' text new.written made puts, cause ∙ quiet)
produces out out' text old mid new (Err e) path made quiet stays puts cause = (
  inr (stays.created ∙ made.1 ∙ ap Some path, (puts.0, told_after old.written mid out' (take puts.0 text) new.written made puts.2)),
  subst (λ n. n ≤ new.faults) quiet cause.0,
  subst (λ n. Rose n new.faults) quiet cause.1,
)

-- what is printed once it is delivered
pub prints_delivered : (job : Job) (files : Option Files) (failed : Option (List ℕ)) (text : List ℕ) (output output' diag diag' : SinkView) (result : Status) → Delivers job.out text output output' diag diag' result → Prints result (Some job) files failed diag diag'
prints_delivered job files failed text output output' diag diag' status.Written told =
    subst (λ s. IsAppended diag s []) (sym told.3) (printed_none {T = ℕ} diag (λ n. []) []).appended
prints_delivered job files failed text output output' diag diag' status.WriteFault told = ([], nothing refl, told.1)
prints_delivered job files failed text output output' diag diag' status.Faults told = absurd told
prints_delivered job files failed text output output' diag diag' status.NoMemory told = absurd told
prints_delivered job files failed text output output' diag diag' status.Words told = absurd told
prints_delivered job files failed text output output' diag diag' status.ReadFault told = absurd told

-- what is created once it is delivered
pub creates_delivered : (job : Job) (files : Option Files) (text : List ℕ) (output output' diag diag' : SinkView) (result : Status) → MayBeWritten files job.path text → Delivers job.out text output output' diag diag' result → IsCreatedUnder result (Some job) files output output'
creates_delivered job files text output output' diag diag' status.Written may told = record { text = text; may_be = may; created = told.0; written = told.1 }
creates_delivered job files text output output' diag diag' status.WriteFault may told = held told.0
  where
    held : IsUncreated output' ⊎ ((output'.created ≡ Some job.out) × ((n : ℕ) × (output'.written ≡ told_as output.written (take n text))))
        → IsUncreated output' ⊎ HoldsFront job files output output'
    held (inl none) = inl none
    held (inr front) = inr (record { text = text; may_be = may; created = front.0; held = front.1.0; written = front.1.1 })
creates_delivered job files text output output' diag diag' status.Faults may told = absurd told
creates_delivered job files text output output' diag diag' status.NoMemory may told = absurd told
creates_delivered job files text output output' diag diag' status.Words may told = absurd told
creates_delivered job files text output output' diag diag' status.ReadFault may told = absurd told

-- what is laid out once it is delivered
told_printed : (told : Option (List ℕ)) (text : List ℕ) → IsPrinted text → IfSome (told_as told text) IsPrinted
told_printed None text printed = tt
told_printed (Some bytes) text printed = printed

pub laid_delivered : (out text : List ℕ) (output output' diag diag' : SinkView) (result : Status) → IsPrinted text → Delivers out text output output' diag diag' result → IsLaidOut result output'
laid_delivered out text output output' diag diag' status.Written printed told =
    subst (λ written. IfSome written IsPrinted) (sym told.1) (told_printed output.written text printed)
laid_delivered out text output output' diag diag' status.WriteFault printed told = tt
laid_delivered out text output output' diag diag' status.Faults printed told = tt
laid_delivered out text output output' diag diag' status.NoMemory printed told = tt
laid_delivered out text output output' diag diag' status.Words printed told = tt
laid_delivered out text output output' diag diag' status.ReadFault printed told = tt

-- under another status nothing has to be
pub laid_otherwise : (result : Status) (output : SinkView) → result ≢ status.Written → IsLaidOut result output
laid_otherwise status.Written output other = absurd (other refl)
laid_otherwise status.WriteFault output other = tt
laid_otherwise status.Faults output other = tt
laid_otherwise status.NoMemory output other = tt
laid_otherwise status.Words output other = tt
laid_otherwise status.ReadFault output other = tt

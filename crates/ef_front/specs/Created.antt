-- What is created under each status.
use Rattle.std.specs.Prelude.{ℕ, List, ◌≡◌, ◌⊎◌, take, false, Option, None, Some}
use Rattle.ef_io.specs.Sources.{Files}
use Rattle.ef_io.specs.Sink.{SinkView}
use Rattle.ef_io.specs.declared.status.Status.{Status}
use Rattle.ef_io.specs.declared.status.Status.TheVariants as status
use Rattle.ef_front.specs.declared.job.Job.{Job}
use Rattle.ef_front.specs.Input.{MayBeWritten}

-- told bytes, in their place these
abbrev pub told_as : Option (List ℕ) → List ℕ → Option (List ℕ)
told_as None bytes = None
told_as (Some _) bytes = Some bytes

-- nothing is created
pub record IsUncreated (new : SinkView) : Type 0 where
  pub is_open : new.is_open ≡ false
  pub created : new.created ≡ None

-- the output holds a text that may be written, and its path is that of the job
pub record HoldsText (job : Job) (files : Option Files) (old new : SinkView) : Type 0 where
  pub text : List ℕ
  pub may_be : MayBeWritten files job.path text
  pub created : new.created ≡ Some job.out
  pub written : new.written ≡ told_as old.written text

-- the same of a front part of such a text
pub record HoldsFront (job : Job) (files : Option Files) (old new : SinkView) : Type 0 where
  pub text : List ℕ
  pub may_be : MayBeWritten files job.path text
  pub created : new.created ≡ Some job.out
  pub held : ℕ
  pub written : new.written ≡ told_as old.written (take held text)

-- what is created under each status
abbrev pub Creates : Status → Option Job → Option Files → SinkView → SinkView → Type 0
Creates status.Written None files old new = ⊥
Creates status.Written (Some job) files old new = HoldsText job files old new
Creates status.WriteFault None files old new = IsUncreated new
Creates status.WriteFault (Some job) files old new = IsUncreated new ⊎ HoldsFront job files old new
Creates _ job files old new = IsUncreated new

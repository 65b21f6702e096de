-- What is stored of a job.
use Rattle.std.specs.Prelude.{ℕ, ◌<◌, ◌≤◌, ◌^◌, Option, Some, None, List}
use Rattle.wm_base.specs.declared.qname.QName.{QName}
use Rattle.wm_base.specs.Name.{IsName}
use Rattle.wm_base.specs.Text.{IsText}
use Rattle.wm_law.specs.Ranges.{IsCause}
use Rattle.wm_law.specs.declared.job.Job.{Job}
use Rattle.wm_law.specs.declared.job.Phase.{Phase}
use Rattle.wm_law.specs.declared.job.Phase.TheVariants as phase
use Rattle.wm_rows.specs.declared.stored_job.StoredJob.{StoredJob}
use Rattle.wm_rows.specs.declared.stored_job.StoredPhase.{StoredPhase}
use Rattle.wm_rows.specs.declared.stored_job.StoredPhase.TheVariants.{Waiting, Active, Ended}

-- a job that is Starting, Handed or Running is stored as Active
abbrev pub stored_phase : Phase → StoredPhase
stored_phase phase.Waiting = Waiting
stored_phase phase.Starting = Active
stored_phase (phase.Handed monitor) = Active
stored_phase (phase.Running monitor) = Active
stored_phase (phase.Ended cause) = Ended cause

-- what is stored of a job
abbrev pub stored_of : Job → StoredJob
stored_of job =
    record {
      serial = job.serial;
      number = job.job.number;
      user = job.job.user;
      name = job.job.name;
      kind = job.kind;
      jobq = job.jobq;
      pty = job.pty;
      place = job.place;
      rtgdta = job.rtgdta;
      rqsdta = job.rqsdta;
      held = job.held;
      due = job.due;
      phase = stored_phase job.phase;
    }

-- a queue's name, where there is one
abbrev pub IsQueue : Option QName → Type 0
IsQueue None = Unit {0}
IsQueue (Some q) = IsName q.lib × IsName q.name

-- a request's text, where there is one
abbrev pub IsRequest : Option (List ℕ) → Type 0
IsRequest None = Unit {0}
IsRequest (Some text) = IsText text

abbrev pub IsPhase : StoredPhase → Type 0
IsPhase Waiting = Unit {0}
IsPhase Active = Unit {0}
IsPhase (Ended cause) = IsCause cause

-- the values keep the ranges of their types
pub record IsStored (job : StoredJob) : Type 0 where
  pub serial : job.serial < 2 ^ 64
  pub number_least : 1 ≤ job.number
  pub number_most : job.number ≤ 999999
  pub user : IsName job.user
  pub name : IsName job.name
  pub jobq : IsQueue job.jobq
  pub pty_least : 1 ≤ job.pty
  pub pty_most : job.pty ≤ 9
  pub place : job.place < 2 ^ 64
  pub rtgdta : IsText job.rtgdta
  pub rqsdta : IsRequest job.rqsdta
  pub due : job.due ≤ 253402214399
  pub phase : IsPhase job.phase

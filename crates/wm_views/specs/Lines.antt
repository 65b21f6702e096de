-- How a job is shown: its status and its line.
use Rattle.std.specs.Prelude.{ℕ, Bool, true, false, not, ◌&&◌, nat_lt, if◌then◌else◌}
use Rattle.wm_law.specs.declared.job.Job.{Job}
use Rattle.wm_law.specs.declared.job.JobKind.{JobKind}
use Rattle.wm_law.specs.declared.job.JobKind.TheVariants as kind
use Rattle.wm_law.specs.declared.job.Phase.{Phase}
use Rattle.wm_law.specs.declared.job.Phase.TheVariants as phase
use Rattle.wm_law.specs.declared.job.Wish.{Wish}
use Rattle.wm_law.specs.declared.job.Wish.TheVariants.{NoWish, Later, Now}
use Rattle.wm_views.specs.declared.shown.JobLine.{JobLine}
use Rattle.wm_views.specs.declared.shown.Status.{Status}
use Rattle.wm_views.specs.declared.shown.Status.TheVariants.{Hld, Scd, Rls, End, Start, Psrw, Active, Ended}

-- to end now
abbrev pub is_now : Wish → Bool
is_now NoWish = false
is_now (Later until why) = false
is_now (Now why handed) = true

abbrev pub is_bch : JobKind → Bool
is_bch kind.Bch = true
is_bch kind.Asj = false
is_bch kind.Pj = false

abbrev pub is_pj : JobKind → Bool
is_pj kind.Bch = false
is_pj kind.Asj = false
is_pj kind.Pj = true

-- a waiting job is held, or scheduled for a moment after the clock, or released
abbrev pub waiting_status : ℕ → Job → Status
waiting_status clock j = if j.held then Hld else if nat_lt clock j.due then Scd else Rls

-- an active job, where it isn't to end now
abbrev pub unless_now : Job → Status → Status
unless_now j status = if is_now j.wish then End else status

-- a running prestart job without a request waits for one
abbrev pub running_status : Job → Status
running_status j = if is_pj j.kind && not j.evoke then Psrw else Active

abbrev pub status_in : ℕ → Job → Phase → Status
status_in clock j phase.Waiting = waiting_status clock j
status_in clock j phase.Starting = unless_now j Start
status_in clock j (phase.Handed monitor) = unless_now j Start
status_in clock j (phase.Running monitor) = unless_now j (running_status j)
status_in clock j (phase.Ended cause) = Ended cause

-- the status of a job at a moment
abbrev pub status : ℕ → Job → Status
status clock j = status_in clock j j.phase

abbrev pub job_line : ℕ → Job → JobLine
job_line clock j = record { job = j.job; kind = j.kind; pty = j.pty; status = status clock j }

-- the line of a waiting job, with its place on its queue
pub record Placed : Type 0 where
  pub place : ℕ
  pub line : JobLine

abbrev pub placed : ℕ → Job → Placed
placed clock j = record { place = j.place; line = job_line clock j }

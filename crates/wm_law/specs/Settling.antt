-- What settles after a call: what is to end by the clock ends, ending subsystems leave, prestart entries are supplied, and the jobs start whose turn has come.
use Rattle.std.specs.Prelude.{ℕ, Bool, true, false, not, ◌&&◌, ◌==◌, List, Option, Some, None, filter, map, count_by, if◌then◌else◌}
use Rattle.std.specs.List.{list_any}
use Rattle.wm_base.specs.declared.job.EndCause.{EndCause}
use Rattle.wm_base.specs.declared.qname.QName.{QName}
use Rattle.wm_base.specs.Iterate.{iterate}
use Rattle.wm_desc.specs.Table.{same_qname}
use Rattle.wm_law.specs.declared.job.Job.{Job}
use Rattle.wm_law.specs.declared.job.Phase.TheVariants.{Ended}
use Rattle.wm_law.specs.declared.state.State.{State}
use Rattle.wm_law.specs.declared.state.Sbs.{Sbs}
use Rattle.wm_law.specs.declared.state.SbsPhase.{SbsPhase}
use Rattle.wm_law.specs.declared.state.SbsPhase.TheVariants.{Active, Ending, Now}
use Rattle.wm_law.specs.Choice.{first, next}
use Rattle.wm_law.specs.Counts.{is_active, is_starting, is_waiting, count_in_sbs}
use Rattle.wm_law.specs.Launch.{launch}
use Rattle.wm_law.specs.Reports.{in_phase}
use Rattle.wm_law.specs.Supply.{supply}
use Rattle.wm_law.specs.Wishes.{deadline, has_come, now_cause, told_now, with_wish}

-- whether a subsystem of the phase is to end
abbrev pub is_ending : SbsPhase → Bool
is_ending Active = false
is_ending (Ending until) = true
is_ending Now = true

-- whether a subsystem of the phase is to end now
abbrev pub is_sbs_now : SbsPhase → Bool
is_sbs_now Active = false
is_sbs_now (Ending until) = false
is_sbs_now Now = true

-- the moment from which on the subsystem is to end now, where it is yet to come
abbrev pub sbs_moment : SbsPhase → Option ℕ
sbs_moment Active = None
sbs_moment (Ending until) = until
sbs_moment Now = None

-- an ending subsystem whose moment has come ends now
abbrev pub sbs_phase_at : ℕ → SbsPhase → SbsPhase
sbs_phase_at clock Active = Active
sbs_phase_at clock (Ending until) = if has_come clock until then Now else Ending until
sbs_phase_at clock Now = Now

-- the subsystem by the clock
abbrev pub sbs_at : ℕ → Sbs → Sbs
sbs_at clock b = record b { phase = sbs_phase_at clock b.phase }

-- the job whose wish is looked at, where it is active
abbrev pub with_deadline : ℕ → Job → Job
with_deadline clock j = if is_active j.phase then with_wish (deadline clock j) j else j

-- the job, ended where there is a cause
abbrev pub ended_by : Option EndCause → Job → Job
ended_by None j = j
ended_by (Some c) j = in_phase (Ended c) j

-- the job, which a Now wish ends where it is Starting
abbrev pub unless_started : Job → Job
unless_started j = if is_starting j.phase then ended_by (now_cause j.wish) j else j

-- the job by the clock: it is told to end where its subsystem ends now, then its wish is looked at, and then it ends where it is Starting
abbrev pub job_at : ℕ → List Sbs → Job → Job
job_at clock started j = unless_started (with_deadline clock (told_now (λ b. is_sbs_now b.phase) started j))

-- the subsystems by the clock
abbrev pub sbss_at : State → List Sbs
sbss_at s = map (sbs_at s.clock) s.started

-- what is to end by the clock: first the subsystems, then the jobs
abbrev pub come_due : State → State
come_due s = record s { started = sbss_at s; jobs = map (job_at s.clock (sbss_at s)) s.jobs }

-- an ending subsystem with no active job is gone
abbrev pub is_gone : List Job → Sbs → Bool
is_gone jobs b = is_ending b.phase && count_in_sbs b.sbsd jobs == 0

-- a subsystem of the name is gone
abbrev pub is_gone_by_name : State → QName → Bool
is_gone_by_name s q = list_any (λ b. is_gone s.jobs b && same_qname b.sbsd q) s.started

-- the subsystems that are gone leave, with their stopped entries and the requests that wait there
abbrev pub leave : State → State
leave s =
    record s {
      started = filter (λ b. not (is_gone s.jobs b)) s.started;
      stopped = filter (λ e. not (is_gone_by_name s e.sbs)) s.stopped;
      evokes = filter (λ e. not (is_gone_by_name s e.sbs)) s.evokes;
    }

-- how many jobs wait
abbrev pub waiting : State → ℕ
waiting s = count_by (λ j. is_waiting j.phase) s.jobs

-- while there is a next job, it is launched; each launch leaves one job less that waits
abbrev pub start_jobs : State → State
start_jobs s = iterate next (λ c t. launch t c) (waiting s) s

-- while a subsystem has a first, it is launched
abbrev pub start_in : State → QName → State
start_in s sbs = iterate (λ t. first t sbs) (λ c t. launch t c) (waiting s) s

-- the state before jobs start: what is due has ended, subsystems have left, and prestart entries are supplied
abbrev pub ready : State → State
ready s = supply (leave (come_due s))

-- the state settles: what is due ends, then subsystems leave, then prestart entries are supplied, then jobs start
abbrev pub settle : State → State
settle s = start_jobs (ready s)

-- Which subsystems are meant, and what active jobs are told.
use Rattle.std.specs.Prelude.{ℕ, Bool, false, not, ◌&&◌, List, Option, Some, None, unwrap_or, if◌then◌else◌}
use Rattle.wm_base.specs.declared.job.EndCause.{EndCause}
use Rattle.wm_base.specs.declared.qname.QName.{QName}
use Rattle.wm_desc.specs.Table.{same_qname}
use Rattle.wm_law.specs.declared.command.EndOption.{EndOption}
use Rattle.wm_law.specs.declared.command.EndOption.TheVariants.{Cntrld, Immed}
use Rattle.wm_law.specs.declared.job.Job.{Job}
use Rattle.wm_law.specs.declared.job.Phase.TheVariants.{Ended}
use Rattle.wm_law.specs.declared.job.Why.TheVariants as why
use Rattle.wm_law.specs.declared.job.Wish.{Wish}
use Rattle.wm_law.specs.declared.job.Wish.TheVariants as wish
use Rattle.wm_law.specs.declared.state.Sbs.{Sbs}
use Rattle.wm_law.specs.Counts.{is_starting}
use Rattle.wm_law.specs.Endings.{is_ending_by, is_left_to_use, told}
use Rattle.wm_law.specs.Jobs.{active_at}
use Rattle.wm_law.specs.Prestarting.{is_of_entry, prestart_wish, told_with_entry}
use Rattle.wm_law.specs.Reports.{phased_at}
use Rattle.wm_law.specs.Settling.{is_sbs_now, job_at}
use Rattle.wm_law.specs.Wishes.{deadline, is_now, is_to_end, now_cause, with_wish}
use Rattle.wm_subsystems.specs.declared.meant.Those.{Those}
use Rattle.wm_subsystems.specs.declared.meant.Those.TheVariants.{Named, NotEnded, EndingNow}
use Rattle.wm_subsystems.specs.declared.meant.Told.{Told}
use Rattle.wm_subsystems.specs.declared.meant.Telling.{Telling}
use Rattle.wm_subsystems.specs.declared.meant.Telling.TheVariants.{By, Entry, Clock}

-- the subsystem is one of those that are meant
abbrev pub passes : Those → Sbs → Bool
passes (Named q) b = same_qname b.sbsd q
passes (NotEnded option) b = not (is_ending_by option b.phase)
passes EndingNow b = is_sbs_now b.phase

-- the job as it is told
abbrev pub told_as : Telling → ℕ → List Sbs → Job → Job
told_as (By option those) clock started j = told option (passes those) started j
told_as (Entry option delay sbs pgm) clock started j = told_with_entry clock option delay sbs pgm j
told_as Clock clock started j = job_at clock started j

-- the wish that an option gives a job of such a subsystem
abbrev pub option_wish : EndOption → Those → List Sbs → Job → Option Wish
option_wish Cntrld those started j = if is_left_to_use (passes those) started j then Some (wish.Later None why.Endsbs) else None
option_wish Immed those started j = if is_to_end (passes those) started j then Some (wish.Now why.Endsbs false) else None

-- the wish that an option gives a job of the prestart entry
abbrev pub entry_wish : ℕ → EndOption → Option ℕ → QName → QName → Job → Option Wish
entry_wish clock option delay sbs pgm j = if is_of_entry option sbs pgm j then Some (prestart_wish clock option delay) else None

-- the second wish, where it is one to end now and the first isn't
abbrev pub newly_now : Wish → Wish → Option Wish
newly_now old new = if is_now new && not (is_now old) then Some new else None

-- the wish that the clock gives a job: by its subsystem, or its own that has come due
abbrev pub clock_wish : ℕ → List Sbs → Job → Option Wish
clock_wish clock started j = if is_to_end (passes EndingNow) started j then Some (wish.Now why.Endsbs false) else newly_now j.wish (deadline clock j)

-- the cause by which a Starting job ends that then has such a wish
abbrev pub clock_cause : Job → Option Wish → Option EndCause
clock_cause j w = if is_starting j.phase then now_cause (unwrap_or w j.wish) else None

-- what an active job is told
abbrev pub told_of : Telling → ℕ → List Sbs → Job → Told
told_of (By option those) clock started j = record { wish = option_wish option those started j; cause = None }
told_of (Entry option delay sbs pgm) clock started j = record { wish = entry_wish clock option delay sbs pgm j; cause = None }
told_of Clock clock started j = record { wish = clock_wish clock started j; cause = clock_cause j (clock_wish clock started j) }

-- the job with a wish, where there is one and the job is active and has that serial
abbrev pub wished_at : ℕ → Option Wish → Job → Job
wished_at serial None j = j
wished_at serial (Some w) j = active_at serial (with_wish w) j

-- the job ended, where there is a cause and the job has that serial
abbrev pub ended_at : ℕ → Option EndCause → Job → Job
ended_at serial None j = j
ended_at serial (Some c) j = phased_at serial (Ended c) j

-- the job as it is told, where it has that serial
abbrev pub told_at : ℕ → Told → Job → Job
told_at serial t j = ended_at serial t.cause (wished_at serial t.wish j)

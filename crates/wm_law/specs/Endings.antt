-- ENDJOB, ENDSBS and PWRDWNSYS: jobs and subsystems are told to end.
use Rattle.std.specs.Prelude.{ℕ, Bool, false, not, ◌&&◌, List, Option, Some, None, Result, Ok, Err, find, filter, map, nat_eq, if◌then◌else◌}
use Rattle.std.specs.List.{list_any}
use Rattle.std.specs.Option.{option_map}
use Rattle.std.specs.Cmp.Lexicographic.{pointwise}
use Rattle.wm_base.specs.declared.job.EndCause.TheVariants as cause
use Rattle.wm_base.specs.declared.qname.QName.{QName}
use Rattle.wm_base.specs.declared.refusal.PhaseWord.TheVariants as word
use Rattle.wm_base.specs.declared.refusal.Refusal.{Refusal}
use Rattle.wm_base.specs.declared.refusal.Refusal.TheVariants.{AlreadyEnding, PoweringDown, SbsNotActive, WrongPhase}
use Rattle.wm_desc.specs.Table.{same_qname}
use Rattle.wm_law.specs.declared.call.Reply.TheVariants.{JobEnded, JobEnding, PowerDown, SbsEnding}
use Rattle.wm_law.specs.declared.command.EndOption.{EndOption}
use Rattle.wm_law.specs.declared.command.EndOption.TheVariants.{Cntrld, Immed}
use Rattle.wm_law.specs.declared.command.Endjob.{Endjob}
use Rattle.wm_law.specs.declared.command.Endsbs.{Endsbs}
use Rattle.wm_law.specs.declared.command.Pwrdwnsys.{Pwrdwnsys}
use Rattle.wm_law.specs.declared.job.Job.{Job}
use Rattle.wm_law.specs.declared.job.Phase.{Phase}
use Rattle.wm_law.specs.declared.job.Phase.TheVariants.{Waiting, Starting, Handed, Running, Ended}
use Rattle.wm_law.specs.declared.job.Why.TheVariants as why
use Rattle.wm_law.specs.declared.job.Wish.{Wish}
use Rattle.wm_law.specs.declared.job.Wish.TheVariants as wish
use Rattle.wm_law.specs.declared.state.Power.{Power}
use Rattle.wm_law.specs.declared.state.Power.TheVariants.{Down, DownNow}
use Rattle.wm_law.specs.declared.state.Sbs.{Sbs}
use Rattle.wm_law.specs.declared.state.SbsPhase.{SbsPhase}
use Rattle.wm_law.specs.declared.state.SbsPhase.TheVariants as sbs_phase
use Rattle.wm_law.specs.declared.state.State.{State}
use Rattle.wm_law.specs.Counts.{is_active, is_prestart}
use Rattle.wm_law.specs.Jobs.{with_active, with_waiting}
use Rattle.wm_law.specs.Named.{job_named}
use Rattle.wm_law.specs.Power.{is_down_now, is_on}
use Rattle.wm_law.specs.Reports.{in_phase}
use Rattle.wm_law.specs.Settling.{is_ending, is_sbs_now}
use Rattle.wm_law.specs.Stepped.{Stepped, refused}
use Rattle.wm_law.specs.Wishes.{has_wish, is_in_any, is_now, moment_after, told_now, with_wish}

-- a wish that an option would give is there: any for *CNTRLD, one to end now for *IMMED
abbrev pub is_wished : EndOption → Wish → Bool
is_wished Cntrld w = has_wish w
is_wished Immed w = is_now w

-- what ENDJOB wishes
abbrev pub job_wish : ℕ → EndOption → ℕ → Wish
job_wish clock Cntrld delay = wish.Later (Some (moment_after clock delay)) why.Endjob
job_wish clock Immed delay = wish.Now why.Endjob false

-- ENDJOB of an active job: it gets a wish, unless it has one that the option would give
abbrev pub end_active : State → Endjob → Job → Stepped
end_active s c j =
    if is_wished c.option j.wish then refused s AlreadyEnding
    else record { reply = JobEnding j.job; state = with_active s j.serial (with_wish (job_wish s.clock c.option c.delay)) }

-- a job that waits ends at once, whatever the option; one that is active is to end
abbrev pub end_in_phase : State → Endjob → Job → Phase → Stepped
end_in_phase s c j Waiting = record { reply = JobEnded j.job; state = with_waiting s j.serial (in_phase (Ended cause.EndedOnQueue)) }
end_in_phase s c j Starting = end_active s c j
end_in_phase s c j (Handed m) = end_active s c j
end_in_phase s c j (Running m) = end_active s c j
end_in_phase s c j (Ended end) = refused s (WrongPhase word.Ended)

-- ENDJOB of the job that was found
abbrev pub end_found : State → Endjob → Result Job Refusal → Stepped
end_found s c (Err x) = refused s x
end_found s c (Ok j) = end_in_phase s c j j.phase

-- the job that is named ends, or is to end
abbrev pub end_job : State → Endjob → Stepped
end_job s c = end_found s c (job_named s c.job)

-- a subsystem that an option would end does so already: it is ending for *CNTRLD, and ends now for *IMMED
abbrev pub is_ending_by : EndOption → SbsPhase → Bool
is_ending_by Cntrld phase = is_ending phase
is_ending_by Immed phase = is_sbs_now phase

-- the phase of a subsystem that an option ends
abbrev pub end_phase : ℕ → EndOption → Option ℕ → SbsPhase
end_phase clock Cntrld delay = sbs_phase.Ending (option_map (moment_after clock) delay)
end_phase clock Immed delay = sbs_phase.Now

-- the job is an active prestart job without a wish, in one of the subsystems that pass the test
abbrev pub is_left_to_use : (Sbs → Bool) → List Sbs → Job → Bool
is_left_to_use test started j = is_active j.phase && is_prestart j.kind && not (has_wish j.wish) && is_in_any test started j.how

-- the job, which then is to end with its subsystem once it isn't used
abbrev pub told_later : (Sbs → Bool) → List Sbs → Job → Job
told_later test started j = if is_left_to_use test started j then with_wish (wish.Later None why.Endsbs) j else j

-- what a job in such a subsystem is told
abbrev pub told : EndOption → (Sbs → Bool) → List Sbs → Job → Job
told Cntrld test started j = told_later test started j
told Immed test started j = told_now test started j

-- the subsystem in another phase, where it passes the test
abbrev pub phased : (Sbs → Bool) → SbsPhase → Sbs → Sbs
phased test phase b = if test b then record b { phase = phase } else b

-- the subsystem of that name passes the test
abbrev pub is_of_those : (Sbs → Bool) → List Sbs → QName → Bool
is_of_those test started q = list_any (λ b. test b && same_qname b.sbsd q) started

-- the subsystems that pass the test end: their jobs are told, and the requests that wait there go
abbrev pub end_those : State → EndOption → Option ℕ → (Sbs → Bool) → State
end_those s option delay test =
    record s {
      jobs = map (told option test s.started) s.jobs;
      started = map (phased test (end_phase s.clock option delay)) s.started;
      evokes = filter (λ e. not (is_of_those test s.started e.sbs)) s.evokes;
    }

-- the started subsystem of a simple name
abbrev pub started_named : State → List ℕ → Option Sbs
started_named s name = find (λ b. pointwise nat_eq b.sbsd.name name) s.started

-- ENDSBS of the started subsystem that was found
abbrev pub end_started : State → Endsbs → Option Sbs → Stepped
end_started s c None = refused s SbsNotActive
end_started s c (Some b) =
    if is_ending_by c.option b.phase then refused s AlreadyEnding
    else record { reply = SbsEnding b.sbsd; state = end_those s c.option c.delay (λ x. same_qname x.sbsd b.sbsd) }

-- the subsystem of the simple name ends
abbrev pub end_subsystem : State → Endsbs → Stepped
end_subsystem s c = end_started s c (started_named s c.sbs)

-- the power is down as far already as an option would bring it
abbrev pub is_down : EndOption → Power → Bool
is_down Cntrld power = not (is_on power)
is_down Immed power = is_down_now power

-- the power as an option brings it down
abbrev pub down_by : EndOption → Power
down_by Cntrld = Down
down_by Immed = DownNow

-- each subsystem ends that doesn't so already, and the power is down
abbrev pub power_down : State → Pwrdwnsys → Stepped
power_down s c =
    if is_down c.option s.power then refused s PoweringDown
    else record { reply = PowerDown; state = record (end_those s c.option c.delay (λ b. not (is_ending_by c.option b.phase))) { power = down_by c.option } }

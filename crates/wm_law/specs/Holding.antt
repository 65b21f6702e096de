-- HLDJOB and RLSJOB: a job that waits is held, or released.
use Rattle.std.specs.Prelude.{Bool, true, false, Result, Ok, Err, if◌then◌else◌}
use Rattle.wm_base.specs.declared.refusal.Refusal.{Refusal}
use Rattle.wm_base.specs.declared.refusal.Refusal.TheVariants.{HeldAlready, NotHeld}
use Rattle.wm_law.specs.declared.call.Reply.TheVariants.{Held, Released}
use Rattle.wm_law.specs.declared.command.JobRef.{JobRef}
use Rattle.wm_law.specs.declared.job.Job.{Job}
use Rattle.wm_law.specs.declared.state.State.{State}
use Rattle.wm_law.specs.Jobs.{with_waiting}
use Rattle.wm_law.specs.Named.{waiting_named}
use Rattle.wm_law.specs.Stepped.{Stepped, refused}

-- the job, held or not; its place stays
abbrev pub with_held : Bool → Job → Job
with_held held j = record j { held = held }

-- HLDJOB of the Waiting job that was found
abbrev pub hold_found : State → Result Job Refusal → Stepped
hold_found s (Err x) = refused s x
hold_found s (Ok j) = if j.held then refused s HeldAlready else record { reply = Held j.job; state = with_waiting s j.serial (with_held true) }

-- the job that is named is held
abbrev pub hold_job : State → JobRef → Stepped
hold_job s ref = hold_found s (waiting_named s ref)

-- RLSJOB of the Waiting job that was found
abbrev pub release_found : State → Result Job Refusal → Stepped
release_found s (Err x) = refused s x
release_found s (Ok j) = if j.held then record { reply = Released j.job; state = with_waiting s j.serial (with_held false) } else refused s NotHeld

-- the job that is named is released
abbrev pub release_job : State → JobRef → Stepped
release_job s ref = release_found s (waiting_named s ref)

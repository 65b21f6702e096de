-- What ENDJOB makes of one job.
use Rattle.std.specs.Prelude.{◌≡◌, ℕ, Result, Ok, Err, if◌then◌else◌}
use Rattle.wm_base.specs.declared.job.EndCause.TheVariants.{EndedOnQueue}
use Rattle.wm_base.specs.declared.refusal.PhaseWord.TheVariants as word
use Rattle.wm_base.specs.declared.refusal.Refusal.{Refusal}
use Rattle.wm_base.specs.declared.refusal.Refusal.TheVariants.{AlreadyEnding, WrongPhase}
use Rattle.wm_law.specs.declared.call.Reply.TheVariants.{JobEnded, JobEnding}
use Rattle.wm_law.specs.declared.command.Endjob.{Endjob}
use Rattle.wm_law.specs.declared.job.Job.{Job}
use Rattle.wm_law.specs.declared.job.Phase.{Phase}
use Rattle.wm_law.specs.declared.job.Phase.TheVariants.{Waiting, Starting, Handed, Running, Ended}
use Rattle.wm_law.specs.declared.state.State.{State}
use Rattle.wm_law.specs.Endings.{end_in_phase, is_wished, job_wish}
use Rattle.wm_law.specs.Jobs.{with_active, with_waiting}
use Rattle.wm_law.specs.Reports.{in_phase}
use Rattle.wm_law.specs.Stepped.{Stepped, refused}
use Rattle.wm_law.specs.Wishes.{with_wish}
use Rattle.wm_subsystems.specs.declared.job_ending.Ending.{Ending}
use Rattle.wm_subsystems.specs.declared.job_ending.Ending.TheVariants.{OnQueue, Wished}

-- an active job is to end by the wish of the option, unless it has one that the option would give
abbrev pub active_ending : ℕ → Endjob → Job → Result Ending Refusal
active_ending clock c j = if is_wished c.option j.wish then Err AlreadyEnding else Ok (Wished (job_wish clock c.option c.delay))

-- a job that waits ends on its queue, whatever the option
abbrev pub ending_in : ℕ → Endjob → Job → Phase → Result Ending Refusal
ending_in clock c j Waiting = Ok OnQueue
ending_in clock c j Starting = active_ending clock c j
ending_in clock c j (Handed m) = active_ending clock c j
ending_in clock c j (Running m) = active_ending clock c j
ending_in clock c j (Ended end) = Err (WrongPhase word.Ended)

-- what ENDJOB makes of a job at the clock, or why it refuses to
abbrev pub ending_of : ℕ → Endjob → Job → Result Ending Refusal
ending_of clock c j = ending_in clock c j j.phase

-- the state in which the job has ended on its queue, or has its wish, with what is answered
abbrev pub with_ending : State → Job → Result Ending Refusal → Stepped
with_ending s j (Err x) = refused s x
with_ending s j (Ok OnQueue) = record { reply = JobEnded j.job; state = with_waiting s j.serial (in_phase (Ended EndedOnQueue)) }
with_ending s j (Ok (Wished w)) = record { reply = JobEnding j.job; state = with_active s j.serial (with_wish w) }

-- what ENDJOB makes of a state by a job of it is what it makes of that job
abbrev pub EndsOneJob : Type 0
EndsOneJob = (s : State) (c : Endjob) (j : Job) → end_in_phase s c j j.phase ≡ with_ending s j (ending_of s.clock c j)

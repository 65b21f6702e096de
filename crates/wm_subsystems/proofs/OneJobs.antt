-- ENDJOB on a job of a state makes that of it which it makes of the job alone.
use Rattle.std.proofs.Common.{◌≡◌, Bool, true, false, cond, Ok, Err, refl}
use Rattle.wm_base.specs.declared.refusal.Refusal.TheVariants.{AlreadyEnding}
use Rattle.wm_law.specs.declared.call.Reply.TheVariants.{JobEnding}
use Rattle.wm_law.specs.declared.command.Endjob.{Endjob}
use Rattle.wm_law.specs.declared.job.Job.{Job}
use Rattle.wm_law.specs.declared.job.Phase.{Phase}
use Rattle.wm_law.specs.declared.job.Phase.TheVariants.{Waiting, Starting, Handed, Running, Ended}
use Rattle.wm_law.specs.declared.job.Wish.{Wish}
use Rattle.wm_law.specs.declared.state.State.{State}
use Rattle.wm_law.specs.Endings.{end_active, end_in_phase, is_wished, job_wish}
use Rattle.wm_law.specs.Jobs.{with_active}
use Rattle.wm_law.specs.Stepped.{refused}
use Rattle.wm_law.specs.Wishes.{with_wish}
use Rattle.wm_subsystems.specs.declared.job_ending.Ending.TheVariants.{Wished}
use Rattle.wm_subsystems.specs.OneJob.{active_ending, ending_in, with_ending, EndsOneJob}

-- an active job is refused, or gets its wish
by_wish : (s : State) (j : Job) (w : Wish) (b : Bool) → cond b (refused s AlreadyEnding) (record { reply = JobEnding j.job; state = with_active s j.serial (with_wish w) }) ≡ with_ending s j (cond b (Err AlreadyEnding) (Ok (Wished w)))
by_wish s j w true = refl
by_wish s j w false = refl

active : (s : State) (c : Endjob) (j : Job) → end_active s c j ≡ with_ending s j (active_ending s.clock c j)
active s c j = by_wish s j (job_wish s.clock c.option c.delay) (is_wished c.option j.wish)

in_phase : (s : State) (c : Endjob) (j : Job) (p : Phase) → end_in_phase s c j p ≡ with_ending s j (ending_in s.clock c j p)
in_phase s c j Waiting = refl
in_phase s c j Starting = active s c j
in_phase s c j (Handed m) = active s c j
in_phase s c j (Running m) = active s c j
in_phase s c j (Ended end) = refl

pub ends_one_job : EndsOneJob
ends_one_job s c j = in_phase s c j j.phase

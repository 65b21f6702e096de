-- What a drill counts of its history, and the line that says it.
use Rattle.std.specs.Prelude.{ℕ, Bool, true, false, pos, List, ◌++◌, codes, count_by}
use Rattle.std.specs.Fmt.{decimal}
use Rattle.wm_base.specs.declared.job.EndCause.{EndCause}
use Rattle.wm_base.specs.declared.job.EndCause.TheVariants as cause
use Rattle.wm_law.specs.Counts.{is_waiting}
use Rattle.wm_law.specs.History.{after}
use Rattle.wm_law.specs.Opening.{opening}
use Rattle.wm_law.specs.declared.call.Entry.{Entry}
use Rattle.wm_law.specs.declared.call.Reply.{Reply}
use Rattle.wm_law.specs.declared.call.Reply.TheVariants.{Made, SbsStarted, SbsEnding, Submitted, Held, Released, Changed, JobEnding, JobEnded, QueueHeld, QueueReleased, QueueCleared, PreStarted, PreEnding, Evoked, EvokeWaits, UseEnded, PowerDown, Order, Nothing, Noted, No}
use Rattle.wm_law.specs.declared.job.Phase.{Phase}
use Rattle.wm_law.specs.declared.job.Phase.TheVariants.{Waiting, Starting, Handed, Running, Ended}
use Rattle.wm_law.specs.declared.state.State.{State}
use Rattle.wm_plan.specs.declared.plan.DrillPlan.{DrillPlan}
use Rattle.wm_runs.specs.Text.{line_of}
use Rattle.wm_runs.specs.declared.counts.Counts.{Counts}

-- whether a reply says that a job was submitted
abbrev pub is_submitted : Reply → Bool
is_submitted Made = false
is_submitted (SbsStarted sbs) = false
is_submitted (SbsEnding sbs) = false
is_submitted (Submitted job jobq) = true
is_submitted (Held job) = false
is_submitted (Released job) = false
is_submitted (Changed job) = false
is_submitted (JobEnding job) = false
is_submitted (JobEnded job) = false
is_submitted QueueHeld = false
is_submitted QueueReleased = false
is_submitted (QueueCleared count) = false
is_submitted PreStarted = false
is_submitted PreEnding = false
is_submitted (Evoked job) = false
is_submitted (EvokeWaits position) = false
is_submitted (UseEnded job) = false
is_submitted PowerDown = false
is_submitted (Order asked) = false
is_submitted Nothing = false
is_submitted Noted = false
is_submitted (No refusal) = false

-- whether the reply of an entry says so
unfoldable pub submits : Entry → Bool
submits e = is_submitted e.reply

-- whether a job ended because it was done
abbrev pub is_done : EndCause → Bool
is_done cause.Completed = true
is_done (cause.Exited code) = false
is_done cause.Killed = false
is_done cause.Endjob = false
is_done cause.Endsbs = false
is_done cause.Endpj = false
is_done cause.Maxuse = false
is_done cause.NoRoute = false
is_done (cause.RouteFull seq) = false
is_done cause.BadRequest = false
is_done cause.NoProgram = false
is_done (cause.StartFailed why) = false
is_done cause.Cleared = false
is_done cause.EndedOnQueue = false
is_done cause.Restarted = false

-- whether a job has ended so
abbrev pub is_completed : Phase → Bool
is_completed Waiting = false
is_completed Starting = false
is_completed (Handed m) = false
is_completed (Running m) = false
is_completed (Ended cause) = is_done cause

-- the state that the calls of a history reach from that of no rows, with local time as UTC
abbrev pub reached_by : List Entry → State
reached_by log = after (opening (pos 0)) log

-- the jobs that the history submitted, and of those in the state that it reaches the completed and the waiting ones
abbrev pub counts_of : List Entry → Counts
counts_of log = record {
  submitted = count_by submits log;
  completed = count_by (λ j. is_completed j.phase) (reached_by log).jobs;
  waiting = count_by (λ j. is_waiting j.phase) (reached_by log).jobs;
}

-- the line of a plan and counts
abbrev pub line_with : DrillPlan → Counts → List ℕ
line_with plan c =
    line_of (codes "drill seed " ++ (decimal plan.seed ++ (codes " jobs " ++ (decimal plan.jobs
    ++ (codes " submitted " ++ (decimal c.submitted ++ (codes " completed " ++ (decimal c.completed
    ++ (codes " waiting " ++ decimal c.waiting)))))))))

-- the line of a drill
abbrev pub drill_line : DrillPlan → List Entry → List ℕ
drill_line plan log = line_with plan (counts_of log)

-- The calls of monitors. A monitor is known by the number of its pass.
use Rattle.std.specs.Prelude.{ℕ, Bool, false, not, ◌==◌, ◌&&◌, ◌++◌, List, [], ◌∷◌, Option, Some, None, find, unwrap_or, if◌then◌else◌}
use Rattle.wm_base.specs.declared.job.StartOrder.{StartOrder}
use Rattle.wm_base.specs.declared.job.Asked.TheVariants.{Start, Kill}
use Rattle.wm_base.specs.declared.job.Exit.{Exit}
use Rattle.wm_base.specs.declared.job.Exit.TheVariants as exit
use Rattle.wm_base.specs.declared.job.EndCause.{EndCause}
use Rattle.wm_base.specs.declared.job.EndCause.TheVariants as cause
use Rattle.wm_base.specs.declared.job.How.{How}
use Rattle.wm_base.specs.declared.job.How.TheVariants.{NotYet, FromQueue, Auto, Pre}
use Rattle.wm_base.specs.declared.qname.QName.{QName}
use Rattle.wm_base.specs.declared.refusal.Refusal.TheVariants.{NoJob, WrongPhase}
use Rattle.wm_base.specs.declared.refusal.PhaseWord.{PhaseWord}
use Rattle.wm_base.specs.declared.refusal.PhaseWord.TheVariants as word
use Rattle.wm_law.specs.declared.call.Reply.TheVariants.{Order, Nothing, Noted}
use Rattle.wm_law.specs.declared.job.Job.{Job}
use Rattle.wm_law.specs.declared.job.Phase.{Phase}
use Rattle.wm_law.specs.declared.job.Phase.TheVariants.{Waiting, Starting, Handed, Running, Ended}
use Rattle.wm_law.specs.declared.job.Wish.{Wish}
use Rattle.wm_law.specs.declared.state.State.{State}
use Rattle.wm_law.specs.declared.state.Stop.{Stop}
use Rattle.wm_law.specs.Counts.{is_starting}
use Rattle.wm_law.specs.Jobs.{changed_at, with_active, with_job}
use Rattle.wm_law.specs.Launch.{order_of}
use Rattle.wm_law.specs.Prestart.{is_stop_among}
use Rattle.wm_law.specs.Stepped.{Stepped, refused}
use Rattle.wm_law.specs.Wishes.{handed_wish, is_now, is_unhanded, now_cause}

-- the job in that phase
abbrev pub in_phase : Phase → Job → Job
in_phase phase j = record j { phase = phase }

-- the job in that phase, where it has that serial
abbrev pub phased_at : ℕ → Phase → Job → Job
phased_at serial phase j = changed_at serial (in_phase phase) j

-- the state with the job of that serial in that phase
abbrev pub with_phase : State → ℕ → Phase → State
with_phase s serial phase = with_job s serial (in_phase phase)

-- the job is handed to the monitor with its order, where it has one
abbrev pub hand_order : State → ℕ → Job → Option StartOrder → Stepped
hand_order s m j None = record { reply = Nothing; state = s }
hand_order s m j (Some o) = record { reply = Order (Start o); state = with_phase s j.serial (Handed m) }

-- what a job's phase is called
abbrev pub phase_word : Phase → PhaseWord
phase_word Waiting = word.Waiting
phase_word Starting = word.Starting
phase_word (Handed m) = word.Active
phase_word (Running m) = word.Active
phase_word (Ended c) = word.Ended

-- whether a job of the phase is handed to the monitor
abbrev pub is_handed_to : ℕ → Phase → Bool
is_handed_to m Waiting = false
is_handed_to m Starting = false
is_handed_to m (Handed n) = n == m
is_handed_to m (Running n) = false
is_handed_to m (Ended c) = false

-- whether a job of the phase is run by the monitor
abbrev pub is_run_by : ℕ → Phase → Bool
is_run_by m Waiting = false
is_run_by m Starting = false
is_run_by m (Handed n) = false
is_run_by m (Running n) = n == m
is_run_by m (Ended c) = false

-- the job that was found is handed to the monitor
abbrev pub start_job : State → ℕ → Option Job → Stepped
start_job s m None = record { reply = Nothing; state = s }
start_job s m (Some j) = hand_order s m j (order_of s j)

-- the Starting job of least serial is handed to the monitor
abbrev pub hand_start : State → ℕ → Stepped
hand_start s m = start_job s m (find (λ j. is_starting j.phase) s.jobs)

-- the monitor runs the job, whose kill isn't handed yet
abbrev pub is_to_kill : ℕ → Job → Bool
is_to_kill m j = is_run_by m j.phase && is_unhanded j.wish

-- the job, whose kill is handed
abbrev pub with_kill : Job → Job
with_kill j = record j { wish = handed_wish j.wish }

-- the kill of the job that was found is handed to the monitor; where there is none, a start
abbrev pub hand_job : State → ℕ → Option Job → Stepped
hand_job s m None = hand_start s m
hand_job s m (Some j) = record { reply = Order (Kill j.serial); state = with_active s j.serial with_kill }

-- the kill of least serial is handed to the monitor; where there is none, the start of least serial
abbrev pub hand : State → ℕ → Stepped
hand s m = hand_job s m (find (is_to_kill m) s.jobs)

-- the stopped entries with one more, each once
abbrev pub stop_added : QName → QName → List Stop → List Stop
stop_added sbs pgm stopped = if is_stop_among sbs pgm stopped then stopped else stopped ++ record { sbs = sbs; pgm = pgm } ∷ []

-- the stopped entries with the prestart entry that the how names, if it names one
abbrev pub stops_with : How → List Stop → List Stop
stops_with NotYet stopped = stopped
stops_with (FromQueue sbs jobq pty route) stopped = stopped
stops_with (Auto sbs route) stopped = stopped
stops_with (Pre sbs pgm) stopped = stop_added sbs pgm stopped

-- the stopped entries after a report on the job, which stops its entry where the test says so
abbrev pub stops_after : (Job → Bool) → Job → List Stop → List Stop
stops_after stops j stopped = if stops j then stops_with j.how stopped else stopped

-- a report on the job that was found, whose phase must pass the test
abbrev pub report_on : State → ℕ → (Phase → Bool) → (Job → Phase) → (Job → Bool) → Option Job → Stepped
report_on s serial test phase stops None = refused s NoJob
report_on s serial test phase stops (Some j) =
    if test j.phase
    then record { reply = Noted; state = record (with_phase s serial (phase j)) { stopped = stops_after stops j s.stopped } }
    else refused s (WrongPhase (phase_word j.phase))

-- a report moves the job of that serial on, where its phase passes the test, and stops its prestart entry where the other test says so
abbrev pub report : State → ℕ → (Phase → Bool) → (Job → Phase) → (Job → Bool) → Stepped
report s serial test phase stops = report_on s serial test phase stops (find (λ j. j.serial == serial) s.jobs)

-- the job came by no use, and isn't to end now
abbrev pub is_unused : Job → Bool
is_unused j = j.uses == 0 && not (is_now j.wish)

-- the cause of an end with no Now wish
abbrev pub exit_cause : Exit → EndCause
exit_cause (exit.Code code) = if code == 0 then cause.Completed else cause.Exited code
exit_cause exit.Killed = cause.Killed

-- the cause of an end: the why of a Now wish, else that of the exit
abbrev pub end_cause : Exit → Wish → EndCause
end_cause end w = unwrap_or (now_cause w) (exit_cause end)

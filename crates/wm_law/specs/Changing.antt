-- CHGJOB: a job that waits gets another queue, priority or schedule.
use Rattle.std.specs.Prelude.{ℕ, Bool, true, false, ◌+◌, ◌&&◌, ◌==◌, nat_lt, is_some, unwrap_or, Option, Some, None, Result, Ok, Err, if◌then◌else◌}
use Rattle.std.specs.Option.{option_or}
use Rattle.wm_base.specs.declared.qname.QName.{QName}
use Rattle.wm_base.specs.declared.refusal.Refusal.{Refusal}
use Rattle.wm_base.specs.declared.refusal.Refusal.TheVariants.{NoObject, NumbersUsed}
use Rattle.wm_base.specs.declared.refusal.Kind.TheVariants as kind
use Rattle.wm_desc.specs.Table.{object_named, same_qname}
use Rattle.wm_law.specs.declared.call.Reply.TheVariants.{Changed}
use Rattle.wm_law.specs.declared.command.Chgjob.{Chgjob}
use Rattle.wm_law.specs.declared.job.Job.{Job}
use Rattle.wm_law.specs.declared.state.State.{State}
use Rattle.wm_law.specs.Jobs.{with_waiting}
use Rattle.wm_law.specs.Named.{waiting_named}
use Rattle.wm_law.specs.Schedules.{rescheduled}
use Rattle.wm_law.specs.Stepped.{Stepped, refused}
use Rattle.wm_law.specs.Submitting.{serials_end}

-- the queue that is asked for is an object, where one is
abbrev pub finds_queue : State → Option QName → Bool
finds_queue s None = true
finds_queue s (Some queue) = is_some (object_named queue s.objects.jobqs)

-- a queue that is asked for is the present one
abbrev pub is_queue : QName → Option QName → Bool
is_queue queue None = false
is_queue queue (Some present) = same_qname queue present

-- the queue stays
abbrev pub keeps_queue : Option QName → Option QName → Bool
keeps_queue None present = true
keeps_queue (Some queue) present = is_queue queue present

-- the priority that the job is to have
abbrev pub new_pty : Chgjob → Job → ℕ
new_pty c j = unwrap_or c.jobpty j.pty

-- queue and priority stay
abbrev pub stays : Chgjob → Job → Bool
stays c j = keeps_queue c.jobq j.jobq && new_pty c j == j.pty

-- the job with another due moment
abbrev pub with_due : ℕ → Job → Job
with_due due j = record j { due = due }

-- the job with its new queue and priority, a place, and a due moment
abbrev pub moved_to : Chgjob → ℕ → ℕ → Job → Job
moved_to c place due j = record j { jobq = option_or c.jobq j.jobq; pty = new_pty c j; place = place; due = due }

-- the state in which the job has its new queue and priority, and the next place
abbrev pub moved : State → Chgjob → Job → ℕ → State
moved s c j due = record (with_waiting s j.serial (moved_to c s.next_place due)) { next_place = s.next_place + 1 }

-- CHGJOB of a job whose queue or priority changes, which wants a place
abbrev pub move_job : State → Chgjob → Job → ℕ → Stepped
move_job s c j due = if nat_lt s.next_place serials_end then record { reply = Changed j.job; state = moved s c j due } else refused s NumbersUsed

-- CHGJOB of a job with its new due moment, where its schedule names one
abbrev pub change_due : State → Chgjob → Job → Result ℕ Refusal → Stepped
change_due s c j (Err x) = refused s x
change_due s c j (Ok due) =
    if stays c j then record { reply = Changed j.job; state = with_waiting s j.serial (with_due due) } else move_job s c j due

-- CHGJOB of the job that was found, whose new queue must be an object
abbrev pub change_found : State → Chgjob → Result Job Refusal → Stepped
change_found s c (Err x) = refused s x
change_found s c (Ok j) =
    if finds_queue s c.jobq then change_due s c j (rescheduled s j.due c.scddate c.scdtime) else refused s (NoObject kind.Jobq)

-- the job that is named has its new values
abbrev pub change_job : State → Chgjob → Stepped
change_job s c = change_found s c (waiting_named s c.job)

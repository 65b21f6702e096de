-- HLDJOBQ, RLSJOBQ and CLRJOBQ: a queue is held or released, or its jobs end.
use Rattle.std.specs.Prelude.{Bool, false, ◌&&◌, map, count_by, is_some, Option, Some, None, if◌then◌else◌}
use Rattle.wm_base.specs.declared.job.EndCause.TheVariants as cause
use Rattle.wm_base.specs.declared.qname.QName.{QName}
use Rattle.wm_base.specs.declared.refusal.Refusal.TheVariants.{HeldAlready, NoObject, NotHeld}
use Rattle.wm_base.specs.declared.refusal.Kind.TheVariants as kind
use Rattle.wm_desc.specs.Sorted.{added, removed}
use Rattle.wm_desc.specs.Table.{object_named, qname_cmp, same_qname}
use Rattle.wm_law.specs.declared.call.Reply.TheVariants.{QueueCleared, QueueHeld, QueueReleased}
use Rattle.wm_law.specs.declared.job.Job.{Job}
use Rattle.wm_law.specs.declared.job.Phase.TheVariants.{Ended}
use Rattle.wm_law.specs.declared.state.State.{State}
use Rattle.wm_law.specs.Choice.{is_held}
use Rattle.wm_law.specs.Counts.{is_waiting}
use Rattle.wm_law.specs.Reports.{in_phase}
use Rattle.wm_law.specs.Stepped.{Stepped, refused}

-- held queues stand by their names
abbrev pub own_name : QName → QName
own_name queue = queue

-- the queue is one of the held ones, in its place
abbrev pub with_held_queue : State → QName → State
with_held_queue s queue = record s { held = added own_name qname_cmp queue s.held }

-- the queue is none of the held ones
abbrev pub without_held_queue : State → QName → State
without_held_queue s queue = record s { held = removed own_name same_qname queue s.held }

-- HLDJOBQ of a queue that is an object
abbrev pub hold_known : State → QName → Stepped
hold_known s queue = if is_held s queue then refused s HeldAlready else record { reply = QueueHeld; state = with_held_queue s queue }

-- the queue is held
abbrev pub hold_queue : State → QName → Stepped
hold_queue s queue = if is_some (object_named queue s.objects.jobqs) then hold_known s queue else refused s (NoObject kind.Jobq)

-- RLSJOBQ of a queue that is an object
abbrev pub release_known : State → QName → Stepped
release_known s queue = if is_held s queue then record { reply = QueueReleased; state = without_held_queue s queue } else refused s NotHeld

-- the queue is released
abbrev pub release_queue : State → QName → Stepped
release_queue s queue = if is_some (object_named queue s.objects.jobqs) then release_known s queue else refused s (NoObject kind.Jobq)

-- whether the queue that a job has is this one
abbrev pub is_on_queue : QName → Option QName → Bool
is_on_queue queue None = false
is_on_queue queue (Some q) = same_qname q queue

-- the job waits on the queue
abbrev pub waits_on : QName → Job → Bool
waits_on queue j = is_waiting j.phase && is_on_queue queue j.jobq

-- the job, ended by CLEARED where it waits on the queue
abbrev pub cleared_from : QName → Job → Job
cleared_from queue j = if waits_on queue j then in_phase (Ended cause.Cleared) j else j

-- the jobs that wait on the queue end, held ones too
abbrev pub without_waiting : State → QName → State
without_waiting s queue = record s { jobs = map (cleared_from queue) s.jobs }

-- the queue is cleared
abbrev pub clear_queue : State → QName → Stepped
clear_queue s queue =
    if is_some (object_named queue s.objects.jobqs)
    then record { reply = QueueCleared (count_by (waits_on queue) s.jobs); state = without_waiting s queue }
    else refused s (NoObject kind.Jobq)

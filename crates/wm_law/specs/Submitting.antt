-- SBMJOB: a job is made.
use Rattle.std.specs.Prelude.{ℕ, Bool, false, ◌+◌, ◌-◌, min, ◌&&◌, [], ◌∷◌, ◌++◌, List, Option, Some, None, Result, Ok, Err, nat_lt, nat_le, if◌then◌else◌, unwrap_or, is_some}
use Rattle.wm_base.specs.declared.qname.QName.{QName}
use Rattle.wm_base.specs.declared.job.JobName.{JobName}
use Rattle.wm_base.specs.declared.job.How.TheVariants.{NotYet}
use Rattle.wm_base.specs.declared.refusal.Refusal.{Refusal}
use Rattle.wm_base.specs.declared.refusal.Refusal.TheVariants.{NoObject, NumbersUsed, PoweringDown}
use Rattle.wm_base.specs.declared.refusal.Kind.TheVariants as kind
use Rattle.wm_law.specs.declared.call.Reply.TheVariants.{Submitted}
use Rattle.wm_law.specs.declared.command.Sbmjob.{Sbmjob}
use Rattle.wm_law.specs.declared.job.Job.{Job}
use Rattle.wm_law.specs.declared.job.JobKind.TheVariants.{Bch}
use Rattle.wm_law.specs.declared.job.Phase.TheVariants.{Waiting}
use Rattle.wm_law.specs.declared.job.Wish.TheVariants.{NoWish}
use Rattle.wm_desc.specs.declared.description.Jobd.{Jobd}
use Rattle.wm_law.specs.declared.state.State.{State}
use Rattle.wm_law.specs.Stepped.{Stepped, refused}
use Rattle.wm_desc.specs.Table.{object_named}
use Rattle.wm_law.specs.Power.{is_on}
use Rattle.wm_law.specs.Schedules.{scheduled}

-- all numbers from 1 to below this are job numbers
abbrev pub numbers_end : ℕ
numbers_end = 1000000

-- all numbers below this are serials and places
abbrev pub serials_end : ℕ
serials_end = 1000000000000000000

-- a job number, a serial and a place are left
abbrev pub has_numbers : State → Bool
has_numbers s = nat_le 1 s.next_number && nat_lt s.next_number numbers_end && nat_lt s.next_serial serials_end && nat_lt s.next_place serials_end

-- how many jobs can still be made: none where what comes next is no number
abbrev pub numbers_left : State → ℕ
numbers_left s = if nat_le 1 s.next_number then min (numbers_end - s.next_number) (serials_end - s.next_serial) else 0

-- the queue of a submitted job
abbrev pub queue_of : Sbmjob → Jobd → QName
queue_of c d = unwrap_or c.jobq d.jobq

-- what stands behind the command, where it says so, else in the description
abbrev pub or_described : {V : Type 0} → Option V → Option V → Option V
or_described None inside = inside
or_described (Some v) inside = Some v

-- the name of a submitted job
abbrev pub job_name : State → List ℕ → Sbmjob → JobName
job_name s user c = record { number = s.next_number; user = user; name = unwrap_or c.job c.jobd.name }

-- a submitted job, which is due at a moment
abbrev pub submitted_job : State → List ℕ → Sbmjob → Jobd → ℕ → Job
submitted_job s user c d due =
    record {
      serial = s.next_serial;
      job = job_name s user c;
      kind = Bch;
      jobq = Some (queue_of c d);
      pty = unwrap_or c.jobpty d.pty;
      place = s.next_place;
      rtgdta = unwrap_or c.rtgdta d.rtgdta;
      rqsdta = or_described c.rqsdta d.rqsdta;
      held = unwrap_or c.hold d.hold;
      due = due;
      phase = Waiting;
      how = NotYet;
      wish = NoWish;
      uses = 0;
      evoke = false;
    }

-- the job goes last among the jobs, and its numbers are taken
abbrev pub entered : State → Job → State
entered s j = record s { jobs = s.jobs ++ j ∷ []; next_number = s.next_number + 1; next_serial = s.next_serial + 1; next_place = s.next_place + 1 }

-- SBMJOB of a job that is due at the moment, while numbers are left
abbrev pub submit_numbered : State → List ℕ → Sbmjob → Jobd → ℕ → Stepped
submit_numbered s user c d due =
    if has_numbers s
    then record { reply = Submitted (job_name s user c) (queue_of c d); state = entered s (submitted_job s user c d due) }
    else refused s NumbersUsed

-- SBMJOB of a job whose schedule was looked at
abbrev pub submit_due : State → List ℕ → Sbmjob → Jobd → Result ℕ Refusal → Stepped
submit_due s user c d (Err x) = refused s x
submit_due s user c d (Ok due) = submit_numbered s user c d due

-- SBMJOB of a job with its description, whose queue must be an object
abbrev pub submit_described : State → List ℕ → Sbmjob → Jobd → Stepped
submit_described s user c d =
    if is_some (object_named (queue_of c d) s.objects.jobqs)
    then submit_due s user c d (scheduled s c.scddate c.scdtime)
    else refused s (NoObject kind.Jobq)

-- SBMJOB with the job description that was found
abbrev pub submit_with : State → List ℕ → Sbmjob → Option Jobd → Stepped
submit_with s user c None = refused s (NoObject kind.Jobd)
submit_with s user c (Some d) = submit_described s user c d

-- a Waiting job with the next number, serial and place
abbrev pub submit : State → List ℕ → Sbmjob → Stepped
submit s user c = if is_on s.power then submit_with s user c (object_named c.jobd s.objects.jobds) else refused s PoweringDown

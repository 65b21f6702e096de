-- EVOKE and ENDUSE, and the report that a use is done: a prestart job gets a request, and is done with it.
use Rattle.std.specs.Prelude.{ℕ, Bool, ◌+◌, ◌++◌, ◌∷◌, [], ◌==◌, List, Option, Some, None, Result, Ok, Err, find, nat_le, if◌then◌else◌}
use Rattle.wm_base.specs.declared.job.How.{How}
use Rattle.wm_base.specs.declared.job.How.TheVariants.{NotYet, FromQueue, Auto, Pre}
use Rattle.wm_base.specs.declared.limit.Limit.{Limit}
use Rattle.wm_base.specs.declared.limit.Limit.TheVariants.{NoMax}
use Rattle.wm_base.specs.declared.qname.QName.{QName}
use Rattle.wm_base.specs.declared.refusal.Kind.TheVariants as kind
use Rattle.wm_base.specs.declared.refusal.Refusal.{Refusal}
use Rattle.wm_base.specs.declared.refusal.Refusal.TheVariants.{AlreadyEnding, EntryStopped, NoJob, NoneAvailable, NoObject, NotInUse, PoweringDown, SbsNotActive, WaitListFull, WrongPhase}
use Rattle.wm_desc.specs.declared.description.Sbsd.{Sbsd}
use Rattle.wm_desc.specs.declared.entry.PreEntry.{PreEntry}
use Rattle.wm_desc.specs.Table.{object_named}
use Rattle.wm_law.specs.declared.call.Reply.{Reply}
use Rattle.wm_law.specs.declared.call.Reply.TheVariants.{Evoked, EvokeWaits, Noted, UseEnded}
use Rattle.wm_law.specs.declared.command.Enduse.{Enduse}
use Rattle.wm_law.specs.declared.command.EvokeCommand.{EvokeCommand}
use Rattle.wm_law.specs.declared.job.Job.{Job}
use Rattle.wm_law.specs.declared.job.Phase.{Phase}
use Rattle.wm_law.specs.declared.state.Sbs.{Sbs}
use Rattle.wm_law.specs.declared.state.State.{State}
use Rattle.wm_law.specs.Endings.{started_named}
use Rattle.wm_law.specs.Jobs.{with_active}
use Rattle.wm_law.specs.Launch.{pre_entry, pre_entry_for}
use Rattle.wm_law.specs.Named.{job_named}
use Rattle.wm_law.specs.Power.{is_on}
use Rattle.wm_law.specs.Prestart.{after_use, count_evokes, first_idle, is_running, is_stopped, with_evoke}
use Rattle.wm_law.specs.Reports.{is_run_by, phase_word}
use Rattle.wm_law.specs.Settling.{is_ending}
use Rattle.wm_law.specs.Stepped.{Stepped, refused}

-- how many requests may wait for an entry
abbrev pub max_evokes : ℕ
max_evokes = 1000

-- the state with one more request, which waits for the entry
abbrev pub with_request : State → List ℕ → QName → QName → State
with_request s user sbs pgm = record s { evokes = s.evokes ++ record { user = user; sbs = sbs; pgm = pgm } ∷ [] }

-- EVOKE where no job is idle: the request waits, where the entry has WAIT(*YES) and not too many wait already
abbrev pub evoke_waits : State → List ℕ → QName → PreEntry → Stepped
evoke_waits s user sbs e =
    if e.wait
    then if nat_le max_evokes (count_evokes sbs e.pgm s.evokes)
    then refused s (WaitListFull max_evokes)
    else record { reply = EvokeWaits (count_evokes sbs e.pgm s.evokes + 1); state = with_request s user sbs e.pgm }
    else refused s NoneAvailable

-- EVOKE with the idle job that was found
abbrev pub evoke_on : State → List ℕ → QName → PreEntry → Option Job → Stepped
evoke_on s user sbs e None = evoke_waits s user sbs e
evoke_on s user sbs e (Some j) = record { reply = Evoked j.job; state = with_active s j.serial with_evoke }

-- EVOKE of an entry of a subsystem, where there is one
abbrev pub evoke_entry : State → List ℕ → QName → Option PreEntry → Stepped
evoke_entry s user sbs None = refused s (NoObject kind.Pje)
evoke_entry s user sbs (Some e) =
    if is_stopped s sbs e.pgm then refused s EntryStopped else evoke_on s user sbs e (first_idle sbs e.pgm s.jobs)

-- EVOKE with the description that was found
abbrev pub evoke_with : State → List ℕ → QName → QName → Option Sbsd → Stepped
evoke_with s user sbs pgm None = refused s (NoObject kind.Pje)
evoke_with s user sbs pgm (Some d) = evoke_entry s user sbs (pre_entry_for pgm d)

-- EVOKE in the started subsystem that was found
abbrev pub evoke_in : State → List ℕ → QName → Option Sbs → Stepped
evoke_in s user pgm None = refused s SbsNotActive
evoke_in s user pgm (Some b) =
    if is_ending b.phase then refused s AlreadyEnding else evoke_with s user b.sbsd pgm (object_named b.sbsd s.objects.sbsds)

-- the idle job of least number gets the request; else the request waits
abbrev pub evoke : State → List ℕ → EvokeCommand → Stepped
evoke s user c = if is_on s.power then evoke_in s user c.pgm (started_named s c.sbs) else refused s PoweringDown

-- MAXUSE of an entry, where there is one
abbrev pub maxuse_of : Option PreEntry → Limit
maxuse_of None = NoMax
maxuse_of (Some e) = e.maxuse

-- how often a job may be used, by how it came
abbrev pub maxuse_by : State → How → Limit
maxuse_by s NotYet = NoMax
maxuse_by s (FromQueue sbs jobq pty route) = NoMax
maxuse_by s (Auto sbs route) = NoMax
maxuse_by s (Pre sbs pgm) = maxuse_of (pre_entry s sbs pgm)

-- the state in which the use of the job is done
abbrev pub use_ended : State → Job → State
use_ended s j = with_active s j.serial (after_use (maxuse_by s j.how))

-- the end of a use of the job that was found, whose phase must pass the test, and which must have a request
abbrev pub done_with : State → (Phase → Bool) → Reply → Job → Stepped
done_with s test reply j =
    if test j.phase
    then if j.evoke then record { reply = reply; state = use_ended s j } else refused s NotInUse
    else refused s (WrongPhase (phase_word j.phase))

-- UseDone on the job that was found
abbrev pub use_done_on : State → ℕ → Option Job → Stepped
use_done_on s m None = refused s NoJob
use_done_on s m (Some j) = done_with s (is_run_by m) Noted j

-- the job that the monitor runs is done with its request
abbrev pub use_done : State → ℕ → ℕ → Stepped
use_done s m serial = use_done_on s m (find (λ j. j.serial == serial) s.jobs)

-- ENDUSE of the job that was found
abbrev pub end_use_found : State → Result Job Refusal → Stepped
end_use_found s (Err x) = refused s x
end_use_found s (Ok j) = done_with s is_running (UseEnded j.job) j

-- the job that is named is done with its request
abbrev pub end_use : State → Enduse → Stepped
end_use s c = end_use_found s (job_named s c.job)

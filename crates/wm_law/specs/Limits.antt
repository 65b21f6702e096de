-- No start passes a limit, read off the states before and after an entry.
use Rattle.std.specs.Prelude.{◌≡◌, ℕ, ◌≤◌, Bool, true, false, List, [], ◌∷◌, Some, ⊤}
use Rattle.wm_base.specs.declared.limit.Limit.{Limit}
use Rattle.wm_base.specs.declared.limit.Limit.TheVariants.{NoMax, Most}
use Rattle.wm_base.specs.declared.qname.QName.{QName}
use Rattle.wm_desc.specs.declared.description.Sbsd.{Sbsd}
use Rattle.wm_desc.specs.declared.entry.PreEntry.{PreEntry}
use Rattle.wm_desc.specs.declared.entry.QueueEntry.{QueueEntry}
use Rattle.wm_desc.specs.declared.entry.RouteEntry.{RouteEntry}
use Rattle.wm_desc.specs.Table.{object_named}
use Rattle.wm_law.specs.declared.call.Entry.{Entry}
use Rattle.wm_law.specs.declared.job.Job.{Job}
use Rattle.wm_law.specs.declared.job.JobKind.{JobKind}
use Rattle.wm_law.specs.declared.job.JobKind.TheVariants.{Bch, Asj, Pj}
use Rattle.wm_law.specs.declared.job.Phase.TheVariants.{Starting}
use Rattle.wm_law.specs.declared.state.State.{State}
use Rattle.wm_law.specs.Choice.{entry_for, maxpty_of}
use Rattle.wm_law.specs.Counts.{is_in_sbs, is_from_queue, is_from_priority, is_from_pre, is_by_route, count_in_sbs, count_from_queue, count_from_priority, count_from_pre, count_by_route}
use Rattle.wm_law.specs.History.{stepped}
use Rattle.wm_law.specs.Launch.{entry_numbered, pre_entry_for}
use Rattle.wm_law.specs.Laws.{IsIn}

-- the count is at most the limit
abbrev pub IsWithin : ℕ → Limit → Type 0
IsWithin count NoMax = ⊤
IsWithin count (Most most) = count ≤ most

-- a job of the serial is Starting
abbrev pub IsStarting : State → ℕ → Type 0
IsStarting s serial = (i : Job) × IsIn i s.jobs × (i.serial ≡ serial) × (i.phase ≡ Starting)

-- the job is Starting after an entry, and wasn't before it: it was Waiting, or not there
pub record BecameStarting (s t : State) (j : Job) : Type 0 where
  pub job : IsIn j t.jobs
  pub starting : j.phase ≡ Starting
  pub new : IsStarting s j.serial → ⊥

-- whether the job started with its subsystem
abbrev pub is_autostart : JobKind → Bool
is_autostart Bch = false
is_autostart Asj = true
is_autostart Pj = false

-- where a job that isn't an autostart job became Starting in a subsystem, the subsystem's count is at most MAXJOBS
abbrev pub KeepsMaxjobs : State → State → Type 0
KeepsMaxjobs s t =
    (j : Job) (sbs : QName) (d : Sbsd)
    → BecameStarting s t j
    → is_autostart j.kind ≡ false
    → is_in_sbs sbs j.how ≡ true
    → object_named sbs t.objects.sbsds ≡ Some d
    → IsWithin (count_in_sbs sbs t.jobs) d.maxjobs

-- where a job became Starting from a queue entry, the entry's count is at most MAXACT
abbrev pub KeepsMaxact : State → State → Type 0
KeepsMaxact s t =
    (j : Job) (sbs queue : QName) (d : Sbsd) (e : QueueEntry)
    → BecameStarting s t j
    → is_from_queue sbs queue j.how ≡ true
    → object_named sbs t.objects.sbsds ≡ Some d
    → entry_for queue d ≡ Some e
    → IsWithin (count_from_queue sbs queue t.jobs) e.maxact

-- where a job became Starting from a queue entry, the entry's count with the job's priority is at most MAXPTY of that priority
abbrev pub KeepsMaxpty : State → State → Type 0
KeepsMaxpty s t =
    (j : Job) (sbs queue : QName) (pty : ℕ) (d : Sbsd) (e : QueueEntry)
    → BecameStarting s t j
    → is_from_priority sbs queue pty j.how ≡ true
    → object_named sbs t.objects.sbsds ≡ Some d
    → entry_for queue d ≡ Some e
    → IsWithin (count_from_priority sbs queue pty t.jobs) (maxpty_of e pty)

-- where a job became Starting through a routing entry, the entry's count is at most MAXACT
abbrev pub KeepsRoutes : State → State → Type 0
KeepsRoutes s t =
    (j : Job) (sbs : QName) (seq : ℕ) (d : Sbsd) (e : RouteEntry)
    → BecameStarting s t j
    → is_by_route sbs seq j.how ≡ true
    → object_named sbs t.objects.sbsds ≡ Some d
    → entry_numbered seq d ≡ Some e
    → IsWithin (count_by_route sbs seq t.jobs) e.maxact

-- where a prestart job became Starting, its entry's count is at most MAXJOBS
abbrev pub KeepsPremax : State → State → Type 0
KeepsPremax s t =
    (j : Job) (sbs pgm : QName) (d : Sbsd) (e : PreEntry)
    → BecameStarting s t j
    → is_from_pre sbs pgm j.how ≡ true
    → object_named sbs t.objects.sbsds ≡ Some d
    → pre_entry_for pgm d ≡ Some e
    → IsWithin (count_from_pre sbs pgm t.jobs) e.maxjobs

-- no start passes a limit over an entry, from the state before it to the state after it; the counts and the limits are those after it
pub record IsWithinLimits (s t : State) : Type 0 where
  pub maxjobs : KeepsMaxjobs s t
  pub maxact : KeepsMaxact s t
  pub maxpty : KeepsMaxpty s t
  pub routes : KeepsRoutes s t
  pub pres : KeepsPremax s t

-- no start passes a limit over any entry of a history
abbrev pub KeepsLimits : State → List Entry → Type 0
KeepsLimits s [] = ⊤
KeepsLimits s (e ∷ es) = IsWithinLimits s (stepped s e).state × KeepsLimits (stepped s e).state es

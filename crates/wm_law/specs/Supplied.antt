-- What settling's third part leaves: no entry of an Active subsystem has both an idle job and a waiting request, and none lacks jobs that it could get.
use Rattle.std.specs.Prelude.{◌≡◌, ◌⊎◌, ℕ, ℤ, ◌≤◌, true, false, List, Some}
use Rattle.wm_base.specs.declared.qname.QName.{QName}
use Rattle.wm_base.specs.Limit.{is_below}
use Rattle.wm_desc.specs.declared.description.Sbsd.{Sbsd}
use Rattle.wm_desc.specs.declared.entry.PreEntry.{PreEntry}
use Rattle.wm_desc.specs.Table.{object_named}
use Rattle.wm_law.specs.declared.call.Call.{Call}
use Rattle.wm_law.specs.declared.call.Entry.{Entry}
use Rattle.wm_law.specs.declared.state.Sbs.{Sbs}
use Rattle.wm_law.specs.declared.state.State.{State}
use Rattle.wm_law.specs.Choice.{is_sbs_active}
use Rattle.wm_law.specs.Counts.{count_from_pre, count_in_sbs}
use Rattle.wm_law.specs.History.{after}
use Rattle.wm_law.specs.Kept.{IsNumbered}
use Rattle.wm_law.specs.Laws.{IsIn}
use Rattle.wm_law.specs.Machine.{step}
use Rattle.wm_law.specs.Opening.{opening}
use Rattle.wm_law.specs.Prestart.{count_available, count_evokes, count_idle, is_stopped}
use Rattle.wm_law.specs.Settling.{settle}
use Rattle.wm_law.specs.Submitting.{numbers_left}
use Rattle.wm_law.specs.Supply.{supply, supply_entry}

-- the entry has no idle job, or no request waits for it
abbrev pub IsServed : QName → QName → State → Type 0
IsServed sbs pgm s = (count_idle sbs pgm s.jobs ≡ 0) ⊎ (count_evokes sbs pgm s.evokes ≡ 0)

-- why no job is made for the entry: it is stopped, has THRESHOLD available jobs, or adds none, its MAXJOBS or that of the subsystem is reached, or no number is left
pub data HasItsJobs (sbs : QName) (d : Sbsd) (e : PreEntry) (s : State) : Type 0 where
  stopped : is_stopped s sbs e.pgm ≡ true → HasItsJobs sbs d e s
  available : e.threshold ≤ count_available sbs e.pgm s.jobs → HasItsJobs sbs d e s
  adds_none : e.adljobs ≡ 0 → HasItsJobs sbs d e s
  entry_full : is_below (count_from_pre sbs e.pgm s.jobs) e.maxjobs ≡ false → HasItsJobs sbs d e s
  subsystem_full : is_below (count_in_sbs sbs s.jobs) d.maxjobs ≡ false → HasItsJobs sbs d e s
  numbers_used : numbers_left s ≡ 0 → HasItsJobs sbs d e s

-- the description has the entry, and an Active subsystem has the description
pub record IsEntryOf (s : State) (b : Sbs) (d : Sbsd) (e : PreEntry) : Type 0 where
  pub started : IsIn b s.started
  pub active : is_sbs_active b.phase ≡ true
  pub described : object_named b.sbsd s.objects.sbsds ≡ Some d
  pub entered : IsIn e d.pres

-- no entry of an Active subsystem has both an idle job and a waiting request
abbrev pub AreServed : State → Type 0
AreServed s = (b : Sbs) (d : Sbsd) (e : PreEntry) → IsEntryOf s b d e → IsServed b.sbsd e.pgm s

-- no entry of an Active subsystem lacks jobs that it could get
abbrev pub HaveTheirJobs : State → Type 0
HaveTheirJobs s = (b : Sbs) (d : Sbsd) (e : PreEntry) → IsEntryOf s b d e → HasItsJobs b.sbsd d e s

-- in the opening state no subsystem is started, so no entry has both
abbrev pub OpeningIsServed : Type 0
OpeningIsServed = (offset : ℤ) → AreServed (opening offset)

-- nor lacks one jobs there
abbrev pub OpeningHasItsJobs : Type 0
OpeningHasItsJobs = (offset : ℤ) → HaveTheirJobs (opening offset)

-- the supply of an entry leaves it no idle job, or no waiting request
abbrev pub SupplyServesEntry : Type 0
SupplyServesEntry = (s : State) (sbs : QName) (d : Sbsd) (e : PreEntry) → IsServed sbs e.pgm (supply_entry sbs d s e)

-- the supply of an entry leaves it no lack of jobs that it could get
abbrev pub SupplyGivesEntryJobs : Type 0
SupplyGivesEntryJobs = (s : State) (sbs : QName) (d : Sbsd) (e : PreEntry) → HasItsJobs sbs d e (supply_entry sbs d s e)

-- the supply of later entries lets no request wait and no job become idle, so it leaves each entry so
abbrev pub SupplyServes : Type 0
SupplyServes = (s : State) → AreServed (supply s)

-- settling leaves each entry so, for jobs that start aren't idle
abbrev pub SettlingServes : Type 0
SettlingServes = (s : State) → AreServed (settle s)

-- so does every step
abbrev pub StepServes : Type 0
StepServes = (s : State) (caller : ℕ) (call : Call) (moment : ℕ) → AreServed (step s caller call moment).state

-- whatever is called, no entry has both an idle job and a waiting request
abbrev pub EntriesAreServed : Type 0
EntriesAreServed = (s : State) (h : List Entry) → AreServed s → AreServed (after s h)

-- in a numbered state the supply of later entries takes no available job away and makes no room, so it leaves no entry a lack of jobs that it could get
abbrev pub SupplyGivesJobs : Type 0
SupplyGivesJobs = (s : State) → IsNumbered s → HaveTheirJobs (supply s)

-- so does settling, for no job that starts was available, and each takes room
abbrev pub SettlingGivesJobs : Type 0
SettlingGivesJobs = (s : State) → IsNumbered s → HaveTheirJobs (settle s)

-- so does every step
abbrev pub StepGivesJobs : Type 0
StepGivesJobs = (s : State) (caller : ℕ) (call : Call) (moment : ℕ) → IsNumbered s → HaveTheirJobs (step s caller call moment).state

-- whatever is called from a numbered state, no entry lacks jobs that it could get
abbrev pub EntriesHaveTheirJobs : Type 0
EntriesHaveTheirJobs = (s : State) (h : List Entry) → IsNumbered s → HaveTheirJobs s → HaveTheirJobs (after s h)

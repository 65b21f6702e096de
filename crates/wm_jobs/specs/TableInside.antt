-- What lies in a table of jobs.
use Rattle.std.specs.Prelude.{◌≡◌, ℕ, ◌+◌, ◌-◌, ◌^◌, ◌<◌, ◌≤◌, true, is_some, List, [], ◌∷◌, length, take, All, vec_capacity}
use Rattle.std.specs.Ordering.{nat_cmp}
use Rattle.wm_indexes.specs.declared.acting.Acting.{Acting}
use Rattle.wm_desc.specs.Sorted.{IsSortedOnce}
use Rattle.wm_law.specs.declared.job.Job.{Job}
use Rattle.wm_law.specs.Counts.{is_waiting, is_active}
use Rattle.wm_indexes.specs.Names.{Names, IsNames}
use Rattle.wm_ordered.specs.Ordered.{Pairs}
use Rattle.wm_indexes.specs.declared.prestart_job.PrestartJob.{PrestartJob}
use Rattle.wm_indexes.specs.OfJobs.{prestart_jobs}
use Rattle.wm_pick.specs.Tally.{Counts, IsTally}
use Rattle.wm_ordered.specs.Waiting.{Waiting, HavePlaces}
use Rattle.wm_pick.specs.Parts.{waiters}
use Rattle.wm_pick.specs.Tallied.{hows}
use Rattle.wm_jobs.specs.Indexed.{orders, actives, nodes_of}
use Rattle.wm_jobs.specs.Marked.{restored, undone, marked_by}
use Rattle.wm_jobs.specs.Table.{Table, serial_of, busy_in}
use Rattle.wm_jobs.specs.declared.table.JobTable.TheInside.{Inside}
use Rattle.wm_jobs.specs.declared.touched.Mark.{Mark}
use Rattle.wm_jobs.specs.declared.touched.Touched.{Touched}

-- its serial and its place were given, and where it waits it does so on a queue
pub record IsListed (next_serial next_place : ℕ) (j : Job) : Type 0 where
  pub serial : j.serial < next_serial
  pub place : j.place < next_place
  pub queue : is_waiting j.phase ≡ true → is_some j.jobq ≡ true

-- jobs in ascending order of their serials; the first place is 1
pub record AreListed (next_serial next_place : ℕ) (jobs : List Job) : Type 0 where
  pub first_place : 1 ≤ next_place
  pub sorted : IsSortedOnce serial_of nat_cmp jobs
  pub each : All (IsListed next_serial next_place) jobs

-- what the jobs are found and counted by
pub record IsIndexed (jobs : List Job) (waiting : Waiting) (tally : Counts) (starting : Pairs ℕ (Unit {0})) (active : Pairs ℕ Acting) (prestart : Pairs ℕ PrestartJob) (busy : ℕ) : Type 0 where
  pub waiters_are : waiting.items ≡ waiters jobs
  pub hows_are : IsTally (hows jobs) tally
  pub orders_are : starting.items ≡ orders jobs
  pub active_are : active.items ≡ actives jobs
  pub prestart_are : prestart.items ≡ prestart_jobs jobs
  pub busy_are : busy ≡ busy_in jobs

-- there is room for so many more jobs, and for the launch of each of them and of each that waits
pub record HasRoom (jobs capacity room : ℕ) (waiting : Waiting) (tally : Counts) (starting : Pairs ℕ (Unit {0})) : Type 0 where
  pub to_stand : jobs + room ≤ capacity
  pub few : jobs + room + 2 < 2 ^ 32
  pub to_wait : room ≤ waiting.spare
  pub to_count : length waiting.items + room ≤ tally.spare
  pub to_start : length waiting.items + room ≤ starting.spare

-- the names are those of the jobs, with room for those of so many more
pub record HasNames (jobs : List Job) (room : ℕ) (names : Names) : Type 0 where
  pub are : IsNames jobs names
  pub to_name : room ≤ names.spare

-- the jobs of the mark are there, and there is room for the change of each job that waits or for which there is room, and for more
pub record IsMarked (marked jobs touched capacity waiting room changes : ℕ) : Type 0 where
  pub there : marked ≤ jobs
  pub to_touch : touched + waiting + room + changes ≤ capacity

-- there is room to take back so many of the changes that were noted, beside the room for more jobs, for changes and for launches; what waited has left its room among those that wait, and so has what was an order among the orders
pub record HasUndos (undos room changes touched : ℕ) (waiting : Waiting) (tally : Counts) (active : Pairs ℕ Acting) (prestart : Pairs ℕ PrestartJob) (names : Names) : Type 0 where
  pub to_wait : room + changes + touched ≤ waiting.spare
  pub to_count : length waiting.items + room + undos ≤ tally.spare
  pub to_list : length waiting.items + room + undos ≤ active.spare
  pub to_seat : length waiting.items + room + undos ≤ prestart.spare
  pub to_name : room + undos ≤ names.spare

-- how many jobs can wait or be orders at once, beside those for which there is room: each takes the room of one order
abbrev pub pending_of : Pairs ℕ (Unit {0}) → ℕ → ℕ
pending_of starting room = nodes_of starting - room

-- jobs stand as a table lists them, those that wait have places of their own, and so many at the most wait or are orders
pub record AreInPlace (next_serial next_place pending : ℕ) (jobs : List Job) : Type 0 where
  pub listed : AreListed next_serial next_place jobs
  pub places : HavePlaces (waiters jobs)
  pub few : length (waiters jobs) + length (orders jobs) ≤ pending

-- a change left its how to a job that was active and is
abbrev pub KeepsHow : Touched → List Job → Type 0
KeepsHow t jobs = All (λ j. j.serial ≡ t.serial → is_active j.phase ≡ true → is_active t.was.phase ≡ true → t.was.how ≡ j.how) jobs

-- jobs stood so before a change was made, and are these after it
pub record StoodBefore (next_serial next_place pending : ℕ) (t : Touched) (jobs : List Job) : Type 0 where
  pub in_place : AreInPlace next_serial next_place pending (restored t jobs)
  pub how : KeepsHow t jobs

-- they stand so, and stood so before each thing that was done to them, the newest last
abbrev pub StoodInPlace : ℕ → ℕ → ℕ → List Touched → List Job → Type 0
StoodInPlace next_serial next_place pending [] jobs = AreInPlace next_serial next_place pending jobs
StoodInPlace next_serial next_place pending (t ∷ ts) jobs = StoodBefore next_serial next_place pending t (undone ts jobs) × StoodInPlace next_serial next_place pending ts jobs

-- the jobs of the mark stood in place ever since, at the mark with its numbers, and the clock hasn't gone back
pub record IsUndoable (mark : Mark) (touched : List Touched) (jobs : List Job) (next_serial next_place pending now : ℕ) : Type 0 where
  pub stood : StoodInPlace next_serial next_place pending touched (take mark.jobs jobs)
  pub began : AreListed mark.next_serial mark.next_place (undone touched (take mark.jobs jobs))
  pub clock : mark.clock ≤ now

-- what a contract sees
abbrev pub table_of : Inside → Table
table_of t =
    record {
      jobs = t.jobs.items;
      clock = t.waiting.clock;
      next_serial = t.next_serial;
      next_place = t.next_place;
      spare = t.room;
      changes = t.changes;
      waits = length t.waiting.items;
      touched = t.touched.items;
      undos = t.undos;
      marked = marked_by t.mark t.touched.items t.jobs.items;
    }

-- what lies in it beside what was touched agrees
pub record IsKept (t : Inside) : Type 0 where
  pub listed : AreListed t.next_serial t.next_place t.jobs.items
  pub indexed : IsIndexed t.jobs.items t.waiting t.tally t.starting t.active t.prestart t.busy
  pub room : HasRoom (length t.jobs.items) (vec_capacity t.jobs) t.room t.waiting t.tally t.starting
  pub named : HasNames t.jobs.items t.room t.names

-- what lies in it agrees
pub record IsTableInside (t : Inside) : Type 0 where
  pub kept : IsKept t
  pub undos : HasUndos t.undos t.room t.changes (length t.touched.items) t.waiting t.tally t.active t.prestart t.names
  pub undoable : IsUndoable t.mark t.touched.items t.jobs.items t.next_serial t.next_place (pending_of t.starting t.room) t.waiting.clock
  pub marked : IsMarked t.mark.jobs (length t.jobs.items) (length t.touched.items) (vec_capacity t.touched) (length t.waiting.items) t.room t.changes

-- What a contract sees of the table of jobs, and what is asked of it.
use Rattle.std.specs.Prelude.{ℕ, ◌+◌, ◌≤◌, Bool, not, ◌&&◌, nat_lt, List, length, count_by, fold, Option, None, if◌then◌else◌}
use Rattle.wm_law.specs.declared.job.Job.{Job}
use Rattle.wm_law.specs.Counts.{is_waiting, is_starting, is_active, is_prestart}
use Rattle.wm_law.specs.Pending.{active_moment, ahead, sooner, soonest}
use Rattle.wm_law.specs.Reports.{is_to_kill}
use Rattle.wm_jobs.specs.Marked.{Marked}
use Rattle.wm_jobs.specs.declared.touched.Touched.{Touched}

-- the jobs in the order of their serials, the moment up to which waiting jobs are due, the next serial and place, for how many more jobs there is room, for how many changes of a job beside launches and ends of those that wait, how many wait, what was noted since the mark, how much of that can be taken back for certain, and what it was at the mark
pub record Table : Type 0 where
  pub jobs : List Job
  pub clock : ℕ
  pub next_serial : ℕ
  pub next_place : ℕ
  pub spare : ℕ
  pub changes : ℕ
  pub waits : ℕ
  pub touched : List Touched
  pub undos : ℕ
  pub marked : Marked

-- what the next mark keeps of it
abbrev pub present : Table → Marked
present t = record { jobs = t.jobs; clock = t.clock; next_serial = t.next_serial; next_place = t.next_place }

-- what was noted can be taken back, and so can what launches, ends and changes note yet
abbrev pub IsReady : Table → Type 0
IsReady t = t.waits + t.spare + t.changes + length t.touched ≤ t.undos

-- what jobs are sorted by
abbrev pub serial_of : Job → ℕ
serial_of j = j.serial

-- whether it is active and no prestart job
abbrev pub is_busy : Job → Bool
is_busy j = is_active j.phase && not (is_prestart j.kind)

-- how many are active
abbrev pub active_in : List Job → ℕ
active_in jobs = count_by (λ j. is_active j.phase) jobs

-- how many active ones aren't prestart jobs
abbrev pub busy_in : List Job → ℕ
busy_in jobs = count_by is_busy jobs

-- how many wait for a monitor
abbrev pub starting_in : List Job → ℕ
starting_in jobs = count_by (λ j. is_starting j.phase) jobs

-- the least moment above the clock at which a Waiting job is due
abbrev pub next_due_in : ℕ → List Job → Option ℕ
next_due_in clock jobs = fold (λ least j. if is_waiting j.phase && nat_lt clock j.due then sooner least j.due else least) None jobs

-- how many kills a monitor is yet to be handed
abbrev pub kills_in : ℕ → List Job → ℕ
kills_in m jobs = count_by (is_to_kill m) jobs

-- the least moment above the clock of an active job's wish
abbrev pub next_wish_in : ℕ → List Job → Option ℕ
next_wish_in clock jobs = fold (λ least j. soonest least (ahead clock (active_moment j))) None jobs

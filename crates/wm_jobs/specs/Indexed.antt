-- What jobs are found and counted by.
use Rattle.std.specs.Prelude.{◌≡◌, ℕ, ◌+◌, ◌≤◌, Bool, true, false, List, length, filter_map, Option, Some, None, if◌then◌else◌}
use Rattle.std.specs.Ordering.{nat_cmp}
use Rattle.wm_indexes.specs.declared.acting.Acting.{Acting}
use Rattle.wm_base.specs.declared.job.How.{How}
use Rattle.wm_desc.specs.Sorted.{added}
use Rattle.wm_law.specs.declared.job.Job.{Job}
use Rattle.wm_law.specs.declared.job.Phase.{Phase}
use Rattle.wm_law.specs.declared.job.Phase.TheVariants.{Waiting, Starting, Handed, Running, Ended}
use Rattle.wm_law.specs.declared.job.Wish.{Wish}
use Rattle.wm_law.specs.Counts.{is_starting, is_active}
use Rattle.wm_law.specs.Wishes.{is_unhanded, wish_moment}
use Rattle.wm_indexes.specs.Names.{Names}
use Rattle.wm_ordered.specs.Ordered.{Pairs, key_of}
use Rattle.wm_indexes.specs.declared.prestart_job.PrestartJob.{PrestartJob}
use Rattle.wm_pick.specs.Tally.{Counts, AddsHow}
use Rattle.wm_ordered.specs.Waiting as waiting

-- a job that waits for a monitor, by its serial
abbrev pub order_of : Job → Option (ℕ × Unit {0})
order_of j = if is_starting j.phase then Some (j.serial, tt) else None

-- the jobs that wait for a monitor, in the order of the jobs
abbrev pub orders : List Job → List (ℕ × Unit {0})
orders jobs = filter_map order_of jobs

-- the monitor that runs a job
abbrev pub runner : Phase → Option ℕ
runner Waiting = None
runner Starting = None
runner (Handed m) = None
runner (Running m) = Some m
runner (Ended c) = None

-- what of a wish acts in a phase
abbrev pub acting_of : Phase → Wish → Acting
acting_of phase wish = record { until = wish_moment wish; kill = if is_unhanded wish then runner phase else None }

-- an active job, by its serial, with what of its wish acts
abbrev pub active_of : Job → Option (ℕ × Acting)
active_of j = if is_active j.phase then Some (j.serial, acting_of j.phase j.wish) else None

-- the active jobs, in the order of the jobs
abbrev pub actives : List Job → List (ℕ × Acting)
actives jobs = filter_map active_of jobs

-- a prestart job comes among them
abbrev pub seated : Option (ℕ × PrestartJob) → List (ℕ × PrestartJob) → List (ℕ × PrestartJob)
seated None rows = rows
seated (Some row) rows = added key_of nat_cmp row rows

-- for how many orders there is room in all, those that are there with them
abbrev pub nodes_of : Pairs ℕ (Unit {0}) → ℕ
nodes_of starting = length starting.items + starting.spare

-- where an active job comes, the tally gains its how
abbrev pub Starts : Bool → Counts → Counts → How → Type 0
Starts true old new how = AddsHow old new how
Starts false old new how = new ≡ old

-- each has room for so many more that wait, for so many starts more, for so many more orders, or for so many more names
pub record HasTaken (waits starts orders named : ℕ) (waiting : waiting.Waiting) (tally : Counts) (starting : Pairs ℕ (Unit {0})) (active : Pairs ℕ Acting) (prestart : Pairs ℕ PrestartJob) (names : Names) : Type 0 where
  pub to_wait : waits ≤ waiting.spare
  pub to_count : starts ≤ tally.spare
  pub to_start : orders ≤ starting.spare
  pub to_list : starts ≤ active.spare
  pub to_seat : starts ≤ prestart.spare
  pub to_name : named ≤ names.spare

-- The walk over the active jobs of a table.
use Rattle.std.specs.Prelude.{◌≡◌, ℕ, ◌*◌, ◌≤◌, List, map, nat_lt, if◌then◌else◌}
use Rattle.wm_law.specs.declared.job.Job.{Job}
use Rattle.wm_law.specs.Kept.{IsGiven}
use Rattle.wm_law.specs.Sound.{IsIncreasing}
use Rattle.wm_law.specs.Submitting.{serials_end}
use Rattle.wm_jobs.specs.Table.{Table, IsReady, active_in, serial_of}

-- the jobs stand in the order of their serials, each of which was given once, and the next serial keeps its range
pub record AreInLine (next_serial : ℕ) (jobs : List Job) : Type 0 where
  pub increasing : IsIncreasing (map serial_of jobs)
  pub given : IsGiven (map serial_of jobs) next_serial
  pub most : next_serial ≤ serials_end

-- there is room for two changes of each active job
abbrev pub HasRoomForActive : Table → Type 0
HasRoomForActive t = 2 * active_in t.jobs ≤ t.changes

-- a table keeps all but its jobs, and what was noted can be taken back as before
pub record KeepsRest (old new : Table) : Type 0 where
  pub clock : new.clock ≡ old.clock
  pub next_serial : new.next_serial ≡ old.next_serial
  pub next_place : new.next_place ≡ old.next_place
  pub marked : new.marked ≡ old.marked
  pub ready : IsReady old → IsReady new

-- the job changed, where its serial is below a number
abbrev pub walked : ℕ → (Job → Job) → Job → Job
walked from change j = if nat_lt j.serial from then change j else j

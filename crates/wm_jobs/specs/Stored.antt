-- What is asked of the jobs that a store has, and of one that comes behind others.
use Rattle.std.specs.Prelude.{◌≡◌, ℕ, false, nat_eq, List, Option, Some, None, All}
use Rattle.std.specs.Ordering.{nat_cmp}
use Rattle.wm_desc.specs.Sorted.{has_key, added}
use Rattle.wm_law.specs.declared.job.Job.{Job}
use Rattle.wm_law.specs.Counts.{is_active}
use Rattle.wm_law.specs.Kept.{IsDistinct, waiting_places}
use Rattle.wm_ordered.specs.declared.waiter.Waiter.{Waiter}
use Rattle.wm_ordered.specs.Waiting.{serial_of, has_place}
use Rattle.wm_jobs.specs.TableInside.{AreListed}

-- they stand as a table lists them, none is active, and those that wait have distinct places
pub record AreStored (next_serial next_place : ℕ) (jobs : List Job) : Type 0 where
  pub listed : AreListed next_serial next_place jobs
  pub inactive : All (λ j. is_active j.phase ≡ false) jobs
  pub places : IsDistinct (waiting_places jobs)

-- one that waits comes among them
abbrev pub joined_by : Option Waiter → List Waiter → List Waiter
joined_by None items = items
joined_by (Some w) items = added serial_of nat_cmp w items

-- none of them has the serial or the place of one that waits
abbrev pub IsOther : Option Waiter → List Waiter → Type 0
IsOther None items = Unit {0}
IsOther (Some w) items = (has_key serial_of nat_eq w.serial items ≡ false) × (has_place w.place items ≡ false)

-- What stands around a monitor at a moment.
use Rattle.std.specs.Prelude.{◌≡◌, ◌⊎◌, ℕ, List, Option, None, Some, IfSome, map, option_to_list}
use Rattle.wm_base.specs.declared.job.Asked.{Asked}
use Rattle.wm_base.specs.declared.job.Asked.TheVariants.{Kill}
use Rattle.wm_traits.specs.declared.spawner.Told.{Told}
use Rattle.wm_law.specs.declared.call.Call.{Call}
use Rattle.wm_floor.specs.declared.report.Report.{Report}
use Rattle.wm_floor.specs.Asking.{AsksFirst}
use Rattle.wm_floor.specs.Monitor.{as_reports}
use Rattle.wm_floor.specs.declared.monitor.Monitor.{Monitor}

-- the kill that is to be tried again
abbrev pub kill_left : Option ℕ → List Asked
kill_left failed = map (λ serial. Kill serial) (option_to_list failed)

-- what a spawner tells of itself, and its two counts
pub record Spawning : Type 0 where
  pub asked : Option (List Asked)
  pub told : Option (List Call)
  pub misses : ℕ
  pub faults : ℕ

-- the report that the floor didn't take, the kill that failed, and the spawner
pub record Scene : Type 0 where
  pub kept : List Report
  pub failed : List Asked
  pub spawning : Spawning

-- a spawner, as these tell of it
abbrev pub spawner_seen : {P : Type 0} → (P → Option (List Asked)) → (P → Option (List Told)) → (P → ℕ) → (P → ℕ) → P → Spawning
spawner_seen asked told misses faults spawner =
    record { asked = asked spawner; told = as_reports (told spawner); misses = misses spawner; faults = faults spawner }

-- the scene of a monitor and a spawner
abbrev pub scene : Monitor → Spawning → Scene
scene monitor spawner = record { kept = option_to_list monitor.kept; failed = kill_left monitor.failed_kill; spawning = spawner }

-- the monitor keeps no report and no failed kill
pub record IsClear (monitor : Monitor) : Type 0 where
  pub no_report : monitor.kept ≡ None
  pub no_kill : monitor.failed_kill ≡ None

-- a kill that failed before is the first ask that is new, or it is kept
abbrev pub IsAskedOrKept : Option ℕ → Option (List Asked) → Option (List Asked) → Option ℕ → Type 0
IsAskedOrKept failed asked_before asked_now kept = IfSome failed (λ serial. AsksFirst (Kill serial) asked_before asked_now ⊎ (kept ≡ Some serial))

-- What a whole run answers for.
use Rattle.std.specs.Prelude.{◌≡◌, ℕ, ◌≤◌, Bool, true, false, List, [], ◌∷◌, length, Option, Result, Ok, Err, count_by, nat_eq}
use Rattle.std.specs.List.{list_any}
use Rattle.wm_base.specs.declared.job.Asked.{Asked}
use Rattle.wm_law.specs.declared.call.Entry.{Entry}
use Rattle.wm_law.specs.History.{orders}
use Rattle.wm_traits.specs.declared.spawner.Told.{Told}
use Rattle.wm_traits.specs.Told.{Grows}
use Rattle.wm_floor.specs.Asking.{AsksFor}
use Rattle.wm_floor.specs.Idle.{monitor_pass}
use Rattle.wm_floor.specs.Monitor.{RisesBy, as_reports, reported, is_spawner_fault}
use Rattle.wm_run.specs.Halt.{status_of}
use Rattle.wm_floor.specs.declared.report.Report.{Report}
use Rattle.wm_run.specs.declared.halt.Halt.{Halt}

-- the status of a session's end: 0, or 1 where a line got a fault or a refusal
abbrev pub ended_status : Result Bool Halt → ℕ
ended_status (Ok false) = 0
ended_status (Ok true) = 1
ended_status (Err halt) = status_of halt

-- the statuses of a run
abbrev pub run_statuses : List ℕ
run_statuses = 0 ∷ 1 ∷ 2 ∷ 3 ∷ 4 ∷ 5 ∷ 6 ∷ 7 ∷ 8 ∷ 9 ∷ 11 ∷ []

-- a status is one of these
abbrev pub IsRunStatus : ℕ → Type 0
IsRunStatus status = list_any (nat_eq status) run_statuses ≡ true

-- what the spawner was asked stands for what the history orders; what it told stands in the history, but for one report at most that is kept
pub record IsServed (log : List Entry) (kept : List Report) (asked_before asked_now : Option (List Asked)) (told_before told_now : Option (List Told)) (misses_before misses_now : ℕ) : Type 0 where
  pub asked : AsksFor [] asked_before asked_now (orders log monitor_pass)
  pub told : Grows (as_reports told_before) (as_reports told_now) (reported log kept)
  pub misses : RisesBy misses_before (count_by is_spawner_fault (reported log kept)) misses_now
  pub few : length kept ≤ 1

-- What a run makes of the rows that it finds, and leaves of them.
use Rattle.std.specs.Prelude.{◌≡◌, ◌⊎◌, ℕ, ℤ, ◌≤◌, true, List, [], ◌∷◌, Option, Some, IfSome, nat_eq}
use Rattle.std.specs.List.{list_any}
use Rattle.wm_floor.specs.Trail.{HasTrail}
use Rattle.wm_law.specs.History.{after, IsLegal}
use Rattle.wm_law.specs.Limits.{KeepsLimits}
use Rattle.wm_law.specs.Maxuse.{KeepsUses}
use Rattle.wm_law.specs.Order.{KeepsOrder}
use Rattle.wm_law.specs.Pending.{active}
use Rattle.wm_law.specs.declared.call.Entry.{Entry}
use Rattle.wm_law.specs.declared.state.State.{State}
use Rattle.wm_traits.specs.declared.fault.KeepFault.{KeepFault}
use Rattle.wm_traits.specs.declared.fault.KeepFault.TheVariants as keep
use Rattle.wm_traits.specs.declared.row.Row.{Row}
use Rattle.wm_floor.specs.Idle.{monitor_pass, NoneIsIdle}
use Rattle.wm_floor.specs.Keeping.{Telling, IsLeft}
use Rattle.wm_floor.specs.Stored.{HasTables}
use Rattle.wm_floor.specs.declared.open_fault.OpenFault.{OpenFault}
use Rattle.wm_floor.specs.declared.open_fault.OpenFault.TheVariants as open_fault
use Rattle.wm_tables.specs.Starts.{StartsOnce}
use Rattle.wm_tables.specs.Restart.{IsBad, IsRestart}

-- what was opened: the history is one from a state of the rows that were found, where local time is so far ahead of UTC, and this is so of that state
pub record HasOpened (offset : ℤ) (log : List Entry) (old new : Telling) (Came : State → Type 0) : Type 0 where
  pub opened : State
  pub rows : List Row
  -- where the tables are told to the end, these are the rows that were told
  pub found : IfSome new.tables (λ _. old.tables ≡ Some rows)
  pub restart : IsRestart offset rows opened
  pub legal : IsLegal opened log
  pub limits : KeepsLimits opened log
  pub uses : KeepsUses opened log
  pub order : KeepsOrder opened log
  pub starts : StartsOnce rows opened log
  pub tables : HasTables (after opened log) new.tables
  pub trail : HasTrail (record { opened = opened; log = log }) old new
  pub came : Came opened

-- what came of a run that opened with a state
pub record HasRun (status : ℕ) (log : List Entry) (Came : State → Type 0) (opened : State) : Type 0 where
  pub no_idle : NoneIsIdle monitor_pass [] opened log
  pub idle : status ≤ 1 → active (after opened log) ≡ 0
  -- and this is what came of the input
  pub input : Came opened

-- the statuses of a run, or of a server, that didn't open
abbrev pub unopened_statuses : List ℕ
unopened_statuses = 2 ∷ 5 ∷ 6 ∷ 9 ∷ []

-- a status is one of these
abbrev pub IsUnopened : ℕ → Type 0
IsUnopened status = list_any (nat_eq status) unopened_statuses ≡ true

-- a run that didn't open: it has no entry, and left the rows
pub record HasNotOpened (status : ℕ) (log : List Entry) (old new : Telling) (Came : State → Type 0) : Type 0 where
  pub early : IsUnopened status
  pub none : log ≡ []
  pub left : IsLeft old new
  -- what came of the input holds of any state
  pub came : (s : State) → Came s

-- a run that opened, or one that didn't
abbrev pub HasHistory : ℤ → ℕ → List Entry → Telling → Telling → (State → Type 0) → Type 0
HasHistory offset status log old new Came = HasOpened offset log old new (HasRun status log Came) ⊎ HasNotOpened status log old new Came

-- where the tables are told, they are as they were, and one of their rows isn't good where local time is so far ahead of UTC
abbrev pub HasBadRow : ℤ → Option (List Row) → Option (List Row) → Type 0
HasBadRow offset old new = IfSome new (λ rows. (old ≡ Some rows) × ((n : ℕ) × IsBad offset rows n))

-- the status of a run, or of a server, whose store gave no keeper
abbrev pub store_status : KeepFault → ℕ
store_status keep.Failed = 5
store_status keep.NoMemory = 6

-- the status of a run, or of a server, whose machine didn't open with the rows
abbrev pub open_status : OpenFault → ℕ
open_status open_fault.KeeperFault = 5
open_status (open_fault.BadRow n) = 9
open_status open_fault.NoMemory = 6

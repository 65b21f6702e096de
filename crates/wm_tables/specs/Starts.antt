-- What rows say of a serial, and which serials the history of a run starts.
use Rattle.std.specs.Prelude.{◌≡◌, ◌⊎◌, ℕ, ◌<◌, ◌≤◌, List, [], ◌∷◌, Some, ⊤}
use Rattle.wm_traits.specs.declared.row.Row.{Row}
use Rattle.wm_law.specs.declared.call.Entry.{Entry}
use Rattle.wm_law.specs.declared.state.State.{State}
use Rattle.wm_law.specs.History.{stepped}
use Rattle.wm_law.specs.Kept.{IsDistinct, start_of, starts}
use Rattle.wm_law.specs.Laws.{IsIn}
use Rattle.wm_rows.specs.Rows.{counter_row}
use Rattle.wm_rows.specs.declared.stored.Counter.TheVariants as counter
use Rattle.wm_rows.specs.JobText.{job_row}
use Rattle.wm_rows.specs.Stored.{IsStored}
use Rattle.wm_rows.specs.declared.stored_job.StoredJob.{StoredJob}
use Rattle.wm_rows.specs.declared.stored_job.StoredPhase.TheVariants.{Waiting}
use Rattle.wm_tables.specs.Tables.{tables}

-- a job of the serial waits in the rows
pub record IsWaitingIn (rows : List Row) (serial : ℕ) : Type 0 where
  pub job : StoredJob
  pub stored : IsStored job
  pub stands : IsIn (job_row job) rows
  pub its : job.serial ≡ serial
  pub waits : job.phase ≡ Waiting

-- the number is the next serial of the rows: that of their counter, and 1 where there are no rows
abbrev pub IsNextIn : List Row → ℕ → Type 0
IsNextIn [] n = n ≡ 1
IsNextIn (row ∷ rows) n = IsIn (counter_row counter.Serial n) (row ∷ rows)

-- a run that finds the rows may start the serial: a job of it waits there, or it isn't below their next serial
abbrev pub IsLeftToStart : List Row → ℕ → Type 0
IsLeftToStart rows serial = IsWaitingIn rows serial ⊎ ((n : ℕ) × IsNextIn rows n × (n ≤ serial))

-- no job of the serial waits in the rows, and their next serial is above it
pub record IsSpentIn (rows : List Row) (serial : ℕ) : Type 0 where
  pub waits : IsWaitingIn rows serial → ⊥
  pub next : (n : ℕ) × IsNextIn rows n × (serial < n)

-- so it is in the tables of a state, and in those after each entry
abbrev pub StaysSpent : ℕ → State → List Entry → Type 0
StaysSpent serial s [] = IsSpentIn (tables s) serial
StaysSpent serial s (e ∷ es) = IsSpentIn (tables s) serial × StaysSpent serial (stepped s e).state es

-- from the order on, each serial that is ordered to start stays spent
abbrev pub SpendsStarts : State → List Entry → Type 0
SpendsStarts s [] = ⊤
SpendsStarts s (e ∷ es) = ((serial : ℕ) → start_of e ≡ Some serial → StaysSpent serial s (e ∷ es)) × SpendsStarts (stepped s e).state es

-- each serial is ordered to start at most once, only where the rows that were found left it to be started, and it stays spent from then on
pub record StartsOnce (found : List Row) (opened : State) (log : List Entry) : Type 0 where
  pub once : IsDistinct (starts log)
  pub left : (serial : ℕ) → IsIn serial (starts log) → IsLeftToStart found serial
  pub spent : SpendsStarts opened log

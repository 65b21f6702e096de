-- What follows from the tables of states and from what rows make, each for all.
use Rattle.std.specs.Prelude.{◌≡◌, ◌≤◌, ℕ, ℤ, List, ◌∷◌, Some}
use Rattle.wm_traits.specs.declared.row.Row.{Row}
use Rattle.wm_traits.specs.Rows.{changed}
use Rattle.wm_command.specs.Printed.{IsFit}
use Rattle.wm_law.specs.Fit.{IsCall, IsCommand}
use Rattle.wm_law.specs.Laws.{IsIn}
use Rattle.wm_law.specs.Machine.{step}
use Rattle.wm_law.specs.Maxuse.{IsWithinMaxuse}
use Rattle.wm_law.specs.Opening.{opening}
use Rattle.wm_law.specs.Sound.{IsSound}
use Rattle.wm_law.specs.SoundPrestart.{IsPrestartSound}
use Rattle.wm_law.specs.declared.call.Call.{Call}
use Rattle.wm_law.specs.declared.command.Command.{Command}
use Rattle.wm_law.specs.declared.state.State.{State}
use Rattle.wm_rows.specs.Rows.{command_row}
use Rattle.wm_tables.specs.Opened.{new_rows, IsEnded}
use Rattle.wm_tables.specs.Ranges.{IsInRange}
use Rattle.wm_tables.specs.Restart.{IsRestart, restarted}
use Rattle.wm_tables.specs.Tables.{puts, tables}

-- a run opens with a sound state
abbrev pub RestartIsSound : Type 0
RestartIsSound = (offset : ℤ) (rows : List Row) (s : State) → IsRestart offset rows s → IsSound s

-- of prestart jobs, too
abbrev pub RestartIsPrestartSound : Type 0
RestartIsPrestartSound = (offset : ℤ) (rows : List Row) (s : State) → IsRestart offset rows s → IsPrestartSound s

-- and with one in which no job was used more often than its prestart entry lets it
abbrev pub RestartIsWithinMaxuse : Type 0
RestartIsWithinMaxuse = (offset : ℤ) (rows : List Row) (s : State) → IsRestart offset rows s → IsWithinMaxuse s

-- and with one that keeps its ranges
abbrev pub RestartIsInRange : Type 0
RestartIsInRange = (offset : ℤ) (rows : List Row) (s : State) → IsRestart offset rows s → IsInRange s

-- the opening state keeps its ranges
abbrev pub OpeningIsInRange : Type 0
OpeningIsInRange = (offset : ℤ) → IsInRange (opening offset)

-- every step of a call in range keeps a sound state in range
abbrev pub StepKeepsRanges : Type 0
StepKeepsRanges = (s : State) (caller : ℕ) (call : Call) (moment : ℕ) → moment ≤ 253402214399 → IsCall call → IsSound s → IsInRange s → IsInRange (step s caller call moment).state

-- the tables of a sound state in range are good, and a run that opens with them has of that state what a stop leaves of it
abbrev pub TablesMakeTheirState : Type 0
TablesMakeTheirState = (offset : ℤ) (s : State) → IsSound s → IsInRange s → IsRestart offset (tables s) (restarted offset s)

-- the rows that a run finds, with those of its state put that aren't among them, are the tables of its state
abbrev pub NewRowsMakeTables : Type 0
NewRowsMakeTables = (offset : ℤ) (found : List Row) (s : State) → IsRestart offset found s → changed (puts (new_rows found s)) found ≡ tables s

-- where a run finds rows, the only ones of its state that aren't among them are those of jobs that were active
abbrev pub OnlyEndedJobsAreNew : Type 0
OnlyEndedJobsAreNew = (offset : ℤ) (first : Row) (found : List Row) (s : State) → IsRestart offset (first ∷ found) s → (row : Row) → IsIn row (new_rows (first ∷ found) s) → IsEnded (first ∷ found) row

-- a row's command that keeps the forms and ranges of the machine keeps those of the command table too
abbrev pub RowCommandsFit : Type 0
RowCommandsFit = (c : Command) (row : Row) → IsCommand c → command_row c ≡ Some row → IsFit c

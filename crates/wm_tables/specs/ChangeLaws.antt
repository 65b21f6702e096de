-- What follows from the changes of steps, each for all.
use Rattle.std.specs.Prelude.{◌≡◌, ◌≤◌, ℕ, List}
use Rattle.wm_traits.specs.declared.row.Row.{Row}
use Rattle.wm_traits.specs.declared.row.RowChange.{RowChange}
use Rattle.wm_traits.specs.Rows.{IsInOrder}
use Rattle.wm_law.specs.Fit.{IsCall}
use Rattle.wm_law.specs.Machine.{step}
use Rattle.wm_law.specs.Sound.{IsSound}
use Rattle.wm_law.specs.declared.call.Call.{Call}
use Rattle.wm_law.specs.declared.state.State.{State}
use Rattle.wm_tables.specs.Ranges.{IsInRange}
use Rattle.wm_tables.specs.Tables.{tables}
use Rattle.wm_tables.specs.Changes.{AreStepChanges}
use Rattle.wm_tables.specs.Difference.{IsDifference}

-- two tables have one difference
abbrev pub DifferencesAreOne : Type 0
DifferencesAreOne = (before after : List Row) (changes others : List RowChange) → IsInOrder before → IsDifference before after changes → IsDifference before after others → changes ≡ others

-- the changes of a step are the difference of the tables before and after it
abbrev pub StepChangesAreDifference : Type 0
StepChangesAreDifference = (s : State) (caller : ℕ) (call : Call) (moment : ℕ) (changes : List RowChange) → IsSound s → IsInRange s → IsCall call → moment ≤ 253402214399 → AreStepChanges s call (step s caller call moment) changes → IsDifference (tables s) (tables (step s caller call moment).state) changes

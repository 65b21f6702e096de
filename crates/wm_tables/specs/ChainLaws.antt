-- What follows for rows, and for runs over one store.
use Rattle.std.specs.Prelude.{◌≡◌, ℕ, ℤ, List}
use Rattle.wm_traits.specs.declared.row.Row.{Row}
use Rattle.wm_law.specs.declared.call.Entry.{Entry}
use Rattle.wm_law.specs.declared.state.State.{State}
use Rattle.wm_law.specs.History.{IsLegal}
use Rattle.wm_law.specs.Kept.{IsDistinct}
use Rattle.wm_tables.specs.Restart.{IsBad, IsRestart}
use Rattle.wm_tables.specs.Chain.{Run, IsChain, all_starts}
use Rattle.wm_tables.specs.Starts.{StartsOnce}

-- good rows make one state
abbrev pub RowsMakeOneState : Type 0
RowsMakeOneState = (offset : ℤ) (rows : List Row) (s t : State) → IsRestart offset rows s → IsRestart offset rows t → s ≡ t

-- rows of which one isn't good make none
abbrev pub BadRowsMakeNone : Type 0
BadRowsMakeNone = (offset : ℤ) (rows : List Row) (n : ℕ) (s : State) → IsBad offset rows n → IsRestart offset rows s → ⊥

-- no other row is the first that isn't good
abbrev pub OneRowIsBad : Type 0
OneRowIsBad = (offset : ℤ) (rows : List Row) (n m : ℕ) → IsBad offset rows n → IsBad offset rows m → n ≡ m

-- from the state that rows make, a legal history starts each serial at most once
abbrev pub RunsStartOnce : Type 0
RunsStartOnce = (offset : ℤ) (rows : List Row) (s : State) (log : List Entry) → IsRestart offset rows s → IsLegal s log → StartsOnce rows s log

-- over all runs of one store no serial is ordered to start twice
abbrev pub NoJobStartsTwice : Type 0
NoJobStartsTwice = (found : List Row) (runs : List Run) → IsChain found runs → IsDistinct (all_starts runs)

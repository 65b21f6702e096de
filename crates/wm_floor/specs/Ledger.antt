-- A ledger, as a contract sees it, and what holds of it.
use Rattle.std.specs.Prelude.{◌≡◌, ◌+◌, ◌-◌, ◌^◌, ◌≤◌, ℕ, min, List, None, Option}
use Rattle.wm_traits.specs.declared.row.Row.{Row}
use Rattle.wm_law.specs.declared.call.Entry.{Entry}
use Rattle.wm_law.specs.declared.state.State.{State}
use Rattle.wm_law.specs.History.{IsLegal}
use Rattle.wm_floor.specs.History.{History}
use Rattle.wm_floor.specs.Journaled.{IsJournal}
use Rattle.wm_floor.specs.Keeping.{telling}
use Rattle.wm_floor.specs.Trail.{HasTrail}
use Rattle.wm_floor.specs.declared.opened.Opened.{Opened}

-- the number of the pass that made an entry
abbrev pub caller_of : Entry → ℕ
caller_of e = e.caller

-- what it was opened with, its entries, its keeper, and how many calls the keeper has failed
pub record Ledgered (K : Type 0) : Type 0 where
  pub opening : Opened K
  pub log : List Entry
  pub keeper : K
  pub misses : ℕ

-- the history of entries behind an opening
abbrev pub behind : {K : Type 0} → Opened K → List Entry → History
behind o log = record { opened = o.state; log = log }

-- its history
abbrev pub history_of : {K : Type 0} → Ledgered K → History
history_of l = behind l.opening l.log

-- the keeper's count hasn't fallen since it was found, and has risen by at least so many, up to the greatest
pub record HasRisen (found misses now : ℕ) : Type 0 where
  pub later : found ≤ now
  pub by_misses : min (found + misses) (2 ^ 64 - 1) ≤ now

module _ {K : Type 0} (faults : K → ℕ) (rows : K → Option (List Row)) (rows_had : K → Option (List (List Row))) where
  -- its history is one of a journal, whose machine has the state, its keeper's count has risen by the failed calls, and a trail that wasn't told as it opened isn't told
  pub record IsLedger (l : Ledgered K) (s : State) : Type 0 where
    pub journal : IsJournal (history_of l) l.opening.limit s (telling rows rows_had l.opening.found) (telling rows rows_had l.keeper)
    pub risen : HasRisen (faults l.opening.found) l.misses (faults l.keeper)
    pub untold : rows_had l.opening.keeper ≡ None → rows_had l.keeper ≡ None

  -- what can be told of it: its history is legal, and its trail is that of its history
  pub record HasLedger (l : Ledgered K) : Type 0 where
    pub legal : IsLegal l.opening.state l.log
    pub trail : HasTrail (history_of l) (telling rows rows_had l.opening.found) (telling rows rows_had l.keeper)
    pub risen : HasRisen (faults l.opening.found) l.misses (faults l.keeper)
    pub untold : rows_had l.opening.keeper ≡ None → rows_had l.keeper ≡ None

-- Runs over one store, one after another.
use Rattle.std.specs.Prelude.{◌≡◌, ◌⊎◌, ℕ, ℤ, List, [], ◌∷◌, ⊤}
use Rattle.std.specs.List.{flat_map}
use Rattle.wm_traits.specs.declared.row.Row.{Row}
use Rattle.wm_law.specs.declared.call.Entry.{Entry}
use Rattle.wm_law.specs.declared.state.State.{State}
use Rattle.wm_law.specs.History.{after, stepped, IsEntry, IsLegal}
use Rattle.wm_law.specs.Kept.{starts}
use Rattle.wm_tables.specs.Restart.{IsRestart}
use Rattle.wm_tables.specs.Tables.{tables}

-- a run: how many minutes its local time is ahead of UTC, its history, and the rows that it left
pub record Run : Type 0 where
  pub offset : ℤ
  pub log : List Entry
  pub left : List Row

-- the rows are the tables of the state that a history reaches, or of one more legal entry, which was kept and not yet answered
abbrev pub IsLeftBy : State → List Entry → List Row → Type 0
IsLeftBy s log rows = (rows ≡ tables (after s log)) ⊎ ((e : Entry) × IsEntry (after s log) e × (rows ≡ tables (stepped (after s log) e).state))

-- a run that opened with the state of the rows that it found, and left those of its history
pub record HasRun (found : List Row) (r : Run) : Type 0 where
  pub opened : State
  pub restart : IsRestart r.offset found opened
  pub legal : IsLegal opened r.log
  pub leaves : IsLeftBy opened r.log r.left

-- a run that entered nothing, and left the rows that it found
pub record HasNotRun (found : List Row) (r : Run) : Type 0 where
  pub none : r.log ≡ []
  pub same : r.left ≡ found

-- a run over the rows that it found
abbrev pub IsRun : List Row → Run → Type 0
IsRun found r = HasRun found r ⊎ HasNotRun found r

-- runs over one store: each finds the rows that the one before it has left
abbrev pub IsChain : List Row → List Run → Type 0
IsChain found [] = ⊤
IsChain found (r ∷ runs) = IsRun found r × IsChain r.left runs

-- the serials that all these runs ordered to start
abbrev pub all_starts : List Run → List ℕ
all_starts runs = flat_map (λ r. starts r.log) runs

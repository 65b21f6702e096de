-- What follows from the history of a run, whatever it took of its input and wrote.
use Rattle.std.specs.Prelude.{◌≡◌, ℕ, List, [], Option, Some}
use Rattle.wm_tables.specs.Chain.{IsRun}
use Rattle.wm_floor.specs.Keeping.{Telling}
use Rattle.wm_law.specs.declared.call.Entry.{Entry}
use Rattle.wm_tables.specs.Restart.{IsBad}
use Rattle.wm_traits.specs.declared.row.Row.{Row}
use Rattle.wm_run.specs.Kept.{HasHistory, IsUnopened}
use Rattle.wm_run.specs.Outcome.{RunTakes}
use Rattle.wm_run.specs.declared.settings.Settings.{Settings}

-- the history of a run over a store that told these rows as it began, and told those as it ended
pub record HasToldHistory (settings : Settings) (status : ℕ) (log : List Entry) (found left : List Row) : Type 0 where
  pub old : Telling
  pub new : Telling
  pub left_before : Option (List ℕ)
  pub left_now : Option (List ℕ)
  pub written_before : Option (List ℕ)
  pub written_now : Option (List ℕ)
  pub history : HasHistory settings.offset status log old new (RunTakes settings left_before left_now status log written_before written_now)
  pub found_rows : old.tables ≡ Some found
  pub left_rows : new.tables ≡ Some left

-- such a run is one of a chain, from the rows that it found to those that it left
abbrev pub RunsMakeChains : Type 0
RunsMakeChains =
    (settings : Settings) (status : ℕ) (log : List Entry) (found left : List Row)
    → HasToldHistory settings status log found left
    → IsRun found (record { offset = settings.offset; log = log; left = left })

-- where one of the rows isn't good, it doesn't open
abbrev pub BadRowsDontOpen : Type 0
BadRowsDontOpen =
    (settings : Settings) (status : ℕ) (log : List Entry) (found left : List Row) (n : ℕ)
    → HasToldHistory settings status log found left
    → IsBad settings.offset found n
    → IsUnopened status × (log ≡ [])

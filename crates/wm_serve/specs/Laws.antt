-- What follows from what a server leaves of the rows that it found.
use Rattle.std.specs.Prelude.{◌≡◌, ℕ, ℤ, List, [], ⊤, Option, Some, None}
use Rattle.wm_traits.specs.declared.row.Row.{Row}
use Rattle.wm_law.specs.declared.call.Entry.{Entry}
use Rattle.wm_tables.specs.Chain.{IsRun}
use Rattle.wm_floor.specs.Keeping.{Telling}
use Rattle.wm_tables.specs.Restart.{IsBad}
use Rattle.wm_run.specs.Kept.{IsUnopened}
use Rattle.wm_serve.specs.Server.{HasLog}

-- the entries of a server, which has none where its floor wasn't opened
abbrev pub entries_in : Option (List Entry) → List Entry
entries_in None = []
entries_in (Some log) = log

-- a server, whatever its seats did, over a store that told these rows as it began, and told those as it ended
pub record IsToldServer (offset : ℤ) (status : ℕ) (log : Option (List Entry)) (found left : List Row) : Type 0 where
  pub old : Telling
  pub new : Telling
  pub history : HasLog offset status log old new (λ opened es. ⊤)
  pub found_rows : old.tables ≡ Some found
  pub left_rows : new.tables ≡ Some left

-- such a server is one of a chain, from the rows that it found to those that it left
abbrev pub ServersMakeChains : Type 0
ServersMakeChains =
    (offset : ℤ) (status : ℕ) (log : Option (List Entry)) (found left : List Row)
    → IsToldServer offset status log found left
    → IsRun found (record { offset = offset; log = entries_in log; left = left })

-- where one of the rows isn't good, it doesn't serve
abbrev pub BadRowsDontServe : Type 0
BadRowsDontServe =
    (offset : ℤ) (status : ℕ) (log : Option (List Entry)) (found left : List Row) (n : ℕ)
    → IsToldServer offset status log found left
    → IsBad offset found n
    → IsUnopened status × (entries_in log ≡ [])

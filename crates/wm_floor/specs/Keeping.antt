-- What becomes of a keeper's tables and of their trail.
use Rattle.std.specs.Prelude.{◌≡◌, ℤ, Bool, List, [], ◌∷◌, Option, IfSome, if◌then◌else◌}
use Rattle.std.specs.Cmp.Lexicographic.{pointwise}
use Rattle.wm_traits.specs.declared.row.Row.{Row}
use Rattle.wm_traits.specs.declared.row.RowChange.{RowChange}
use Rattle.wm_traits.specs.Rows.{changed, new_tables}
use Rattle.wm_traits.specs.Told.{Becomes, Grows, Stays}
use Rattle.wm_law.specs.declared.state.State.{State}
use Rattle.wm_tables.specs.Opened.{same_row}
use Rattle.wm_tables.specs.Restart.{IsRestart}
use Rattle.wm_tables.specs.Tables.{tables}
use Rattle.wm_floor.specs.Stored.{HasTables}

-- whether two tables have the same rows
abbrev pub same_tables : List Row → List Row → Bool
same_tables = pointwise same_row

-- what a change from one table to another adds to a trail
abbrev pub added : List Row → List Row → List (List Row)
added before after = if same_tables before after then [] else after ∷ []

-- what is told of a keeper: its tables, and all that it has had
pub record Telling : Type 0 where
  pub tables : Option (List Row)
  pub trail : Option (List (List Row))

abbrev pub telling : {K : Type 0} → (K → Option (List Row)) → (K → Option (List (List Row))) → K → Telling
telling tables trail keeper = record { tables = tables keeper; trail = trail keeper }

-- both are as they were
pub record IsLeft (old new : Telling) : Type 0 where
  pub tables : Stays old.tables new.tables
  pub trail : Stays old.trail new.trail

-- these changes were made, in one call unless there are none
pub record IsApplied (changes : List RowChange) (old new : Telling) : Type 0 where
  pub tables : Becomes old.tables new.tables (changed changes)
  pub trail : IfSome new.tables (λ rows. Grows old.trail new.trail (new_tables changes rows))

-- the tables are those of a new state, and the trail has them behind those of the old one, unless they are the same
pub record IsKept (s t : State) (old new : Telling) : Type 0 where
  pub rows : HasTables t new.tables
  pub trail : Grows old.trail new.trail (added (tables s) (tables t))

-- a run opened with rows, which are those that were told; the tables are those of its state, and the trail has them behind the rows, unless they are the same
pub record IsOpened (offset : ℤ) (s : State) (old new : Telling) : Type 0 where
  pub found : List Row
  pub told : IfSome old.tables (λ rows. rows ≡ found)
  pub restart : IsRestart offset found s
  pub rows : HasTables s new.tables
  pub trail : Grows old.trail new.trail (added found (tables s))

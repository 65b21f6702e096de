-- What a load and an apply come to that are Ok.
use Rattle.std.specs.Prelude.{◌≡◌, ◌⊎◌, true, List, [], ◌∷◌, length, map}
use Rattle.wm_traits.specs.declared.row.Row.{Row}
use Rattle.wm_traits.specs.declared.row.RowChange.{RowChange}
use Rattle.sqlite.specs.Store.{Ghosts}
use Rattle.sqlite.specs.Order.{Row as SqlRow, column}
use Rattle.sqlite.specs.State.{Shown, Commits}
use Rattle.sqlite.specs.Held.{Held, state}
use Rattle.wm_sqlkeep.specs.Causes.{load_text, columns_of, IsLater, AreMade}

-- what stands in the columns that a load asks for
abbrev pub first_columns : SqlRow → SqlRow
first_columns row = column row 0 ∷ column row 1 ∷ column row 2 ∷ []

module _ {S : Type 0} (g : Ghosts S) where
  -- the loaded rows are all rows of SQLite's answer, in its order
  abbrev pub Loads : Held S → Held S → List Row → Type 0
  Loads old new rows = (mid : Held S) × IsLater g old mid × (given : List SqlRow) × Shown load_text [] (state g mid) (state g new) given × (map first_columns given ≡ map columns_of rows)

  -- there are no changes and nothing is done, or each was made, in their order, and all are committed
  abbrev pub Applies : List RowChange → Held S → Held S → Type 0
  Applies changes old new =
      ((changes ≡ []) × (new ≡ old))
      ⊎ ((mid : Held S) × AreMade g changes (length changes) (record old { in_transaction = true }) mid × Commits (state g mid) (state g new))

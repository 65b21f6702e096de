-- Tables that are computed from the rows that were there first and the changes of each `apply` since.
use Rattle.std.specs.Prelude.{List, [], ◌∷◌, fold}
use Rattle.wm_traits.specs.declared.row.Row.{Row}
use Rattle.wm_traits.specs.declared.row.RowChange.{RowChange}
use Rattle.wm_traits.specs.Rows.{changed}

-- the rows after the changes of one `apply`
abbrev pub after_one : List Row → List RowChange → List Row
after_one rows changes = changed changes rows

-- the rows after all of them
abbrev pub tables_after : List Row → List (List RowChange) → List Row
tables_after rows made = fold after_one rows made

-- the rows before all of them and after each
abbrev pub trail_of : List Row → List (List RowChange) → List (List Row)
trail_of rows [] = rows ∷ []
trail_of rows (changes ∷ later) = rows ∷ trail_of (after_one rows changes) later

-- What one `apply` more makes of the tables and of the trail.
use Rattle.std.proofs.Common.{◌≡◌, List, [], ◌∷◌, ◌++◌, refl, ap}
use Rattle.std.proofs.lemmas.List.Sums.{fold-append}
use Rattle.wm_traits.specs.declared.row.Row.{Row}
use Rattle.wm_traits.specs.declared.row.RowChange.{RowChange}
use Rattle.wm_outside.specs.Log.{after_one, tables_after, trail_of}

-- the tables after one more
pub tables_grown : (rows : List Row) (made : List (List RowChange)) (changes : List RowChange) → tables_after rows (made ++ changes ∷ []) ≡ after_one (tables_after rows made) changes
tables_grown rows made changes = fold-append after_one rows made (changes ∷ [])

-- the trail with one more
pub trail_grown : (rows : List Row) (made : List (List RowChange)) (changes : List RowChange) → trail_of rows (made ++ changes ∷ []) ≡ trail_of rows made ++ tables_after rows (made ++ changes ∷ []) ∷ []
trail_grown rows [] changes = refl
trail_grown rows (first ∷ made) changes = ap (λ tables. rows ∷ tables) (trail_grown (after_one rows first) made changes)

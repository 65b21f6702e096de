-- The difference of two tables, as changes.
use Rattle.std.specs.Prelude.{◌≡◌, true, ⊤, ℕ, List, [], ◌∷◌}
use Rattle.std.specs.Cmp.Lexicographic.{slice_cmp}
use Rattle.std.specs.Ordering.{is_lt, nat_cmp}
use Rattle.wm_traits.specs.declared.row.Row.{Row}
use Rattle.wm_traits.specs.declared.row.RowChange.{RowChange}
use Rattle.wm_traits.specs.declared.row.RowChange.TheVariants.{Put, Del}
use Rattle.wm_traits.specs.Rows.{changed, place_of}
use Rattle.wm_law.specs.Laws.{IsIn}

-- where a change is made: a table, and a key there
abbrev pub change_place : RowChange → List ℕ
change_place (Put row) = place_of row
change_place (Del tab key) = tab ∷ key

-- each change is made before the places of all later ones
abbrev pub AreInOrder : List RowChange → Type 0
AreInOrder [] = ⊤
AreInOrder (change ∷ changes) = ((later : RowChange) → IsIn later changes → is_lt (slice_cmp nat_cmp (change_place change) (change_place later)) ≡ true) × AreInOrder changes

-- a row stands at a place
pub record HasRowAt (rows : List Row) (at : List ℕ) : Type 0 where
  pub row : Row
  pub stands : IsIn row rows
  pub place : place_of row ≡ at

-- the changes, in the order of tables and keys, make the second rows of the first; each puts a row that wasn't there, or deletes one that was
pub record IsDifference (before after : List Row) (changes : List RowChange) : Type 0 where
  pub order : AreInOrder changes
  pub makes : changed changes before ≡ after
  pub puts : (row : Row) → IsIn (Put row) changes → IsIn row before → ⊥
  pub dels : (tab : ℕ) (key : List ℕ) → IsIn (Del tab key) changes → HasRowAt before (tab ∷ key)

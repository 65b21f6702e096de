-- The order of rows, and what changes make of them.
use Rattle.std.specs.Prelude.{◌==◌, ℕ, nat_eq, Bool, ◌&&◌, IsTrue, List, [], ◌∷◌, fold, insert, count_by, AllPairs}
use Rattle.std.specs.Ordering.{is_lt, nat_cmp}
use Rattle.std.specs.Cmp.Lexicographic.{pointwise, slice_cmp}
use Rattle.wm_traits.specs.declared.row.Row.{Row}
use Rattle.wm_traits.specs.declared.row.RowChange.{RowChange}
use Rattle.wm_traits.specs.declared.row.RowChange.TheVariants.{Put, Del}
use Rattle.wm_traits.specs.Spawner.{without_first}

-- what a row is found by: its table, and then the bytes of its key
abbrev pub place_of : Row → List ℕ
place_of row = row.tab ∷ row.key

-- whether a row stands before another
abbrev pub is_before : Row → Row → Bool
is_before a b = is_lt (slice_cmp nat_cmp (place_of a) (place_of b))

-- whether a row is that of a table and a key
abbrev pub is_of : ℕ → List ℕ → Row → Bool
is_of tab key row = row.tab == tab && pointwise nat_eq row.key key

-- each row stands before all later ones, so a table has each key once
abbrev pub IsInOrder : List Row → Type 0
IsInOrder rows = AllPairs (λ a b. IsTrue (is_before a b)) rows

-- the rows without that of a table and a key
abbrev pub without : ℕ → List ℕ → List Row → List Row
without tab key rows = without_first (is_of tab key) rows

-- the rows with one more, behind those that stand before it
abbrev pub placed : Row → List Row → List Row
placed row rows = insert rows (count_by (λ other. is_before other row) rows) row

-- the rows with this one, in place of that of its table and key
abbrev pub put : Row → List Row → List Row
put row rows = placed row (without row.tab row.key rows)

-- the rows after one change
abbrev pub changed_by : List Row → RowChange → List Row
changed_by rows (Put row) = put row rows
changed_by rows (Del tab key) = without tab key rows

-- the rows after all changes, in their order
abbrev pub changed : List RowChange → List Row → List Row
changed changes rows = fold changed_by rows changes

-- what these changes add to a trail: the tables after them, unless there was no change
abbrev pub new_tables : List RowChange → List Row → List (List Row)
new_tables [] rows = []
new_tables (change ∷ changes) rows = rows ∷ []

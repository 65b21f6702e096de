-- How far the rows of a store are good.
use Rattle.std.specs.Prelude.{◌≡◌, ℕ, ◌+◌, ◌<◌, ◌≤◌, Bool, ◌&&◌, List, length, take, slice_get, Some}
use Rattle.std.specs.List.{list_any}
use Rattle.wm_traits.specs.declared.row.Row.{Row}
use Rattle.wm_traits.specs.Rows.{IsInOrder, is_of}
use Rattle.wm_law.specs.declared.state.State.{State}
use Rattle.wm_rows.specs.Rows.{counter_word}
use Rattle.wm_rows.specs.declared.stored.Counter.{Counter}
use Rattle.wm_rows.specs.declared.stored.Counter.TheVariants as counter
use Rattle.wm_tables.specs.Restart.{IsRead}
use Rattle.wm_restart.specs.Plausible.{TakesNone}

-- the first n rows stand in their order, and with the next one they don't
pub record AreOrdered (rows : List Row) (n : ℕ) : Type 0 where
  pub within : n ≤ length rows
  pub order : IsInOrder (take n rows)
  pub broken : n < length rows → IsInOrder (take (n + 1) rows) → ⊥

-- the first n of so many rows make a state of a state, and the next of these makes none
pub record AreRead (rows : List Row) (most n : ℕ) (s t : State) : Type 0 where
  pub within : n ≤ most
  pub read : IsRead s (take n rows) t
  pub stop : n < most → (row : Row) → slice_get rows n ≡ Some row → TakesNone t row

-- whether one of the rows is that of a counter, by its table and key
abbrev pub has_counter : Counter → List Row → Bool
has_counter c rows = list_any (is_of 12 (counter_word c)) rows

-- whether each counter has a row
abbrev pub has_all : List Row → Bool
has_all rows = has_counter counter.Number rows && has_counter counter.Place rows && has_counter counter.Schema rows && has_counter counter.Serial rows

-- What is asked where all that wait are put into the indexes of their kinds anew.
use Rattle.std.specs.Prelude.{◌≡◌, ℕ, ◌≤◌, List, [], length, map, slice_get, Option, Some, None}
use Rattle.std.specs.Ordering.{nat_cmp}
use Rattle.wm_ordered.specs.Ordered.{Pairs, first_above}
use Rattle.wm_ordered.specs.declared.waiter.Waiter.{Waiter}
use Rattle.wm_ordered.specs.declared.keys.Spot.{Spot}
use Rattle.wm_ordered.specs.declared.keys.Rise.{Rise}
use Rattle.wm_ordered.specs.Index.{capacity_of}
use Rattle.wm_ordered.specs.Keys.{row_of, waiters_of}
use Rattle.wm_ordered.specs.Waiting.{HavePlaces}

-- neither index has a row, and both have room for one of each
pub record AreUnlisted (by_serial : Pairs ℕ Waiter) (by_spot : Pairs Spot ℕ) (by_rise : Pairs Rise (Unit {0})) : Type 0 where
  pub keyed : by_serial.items ≡ map row_of (waiters_of by_serial.items)
  pub places : HavePlaces (waiters_of by_serial.items)
  pub turns : by_spot.items ≡ []
  pub early : by_rise.items ≡ []
  pub room_in_turns : length by_serial.items ≤ capacity_of by_spot
  pub room_in_early : length by_serial.items ≤ capacity_of by_rise

-- the row behind that of a serial, or the first of all
abbrev pub row_behind : Option ℕ → List (ℕ × Waiter) → Option (ℕ × Waiter)
row_behind None rows = slice_get rows 0
row_behind (Some serial) rows = first_above nat_cmp serial rows

-- A job takes the place of the one of its serial.
use Rattle.std.specs.Prelude.{◌≡◌, ℕ, ◌≤◌, Bool, true, nat_eq, List, length, Some}
use Rattle.std.specs.Ordering.{nat_cmp}
use Rattle.wm_desc.specs.Sorted.{IsSortedOnce, with_key}
use Rattle.wm_ordered.specs.Ordered.{Pairs}
use Rattle.wm_ordered.specs.declared.waiter.Waiter.{Waiter}
use Rattle.wm_ordered.specs.Index.{IsIndex, capacity_of}
use Rattle.wm_ordered.specs.Keys.{spot_of}
use Rattle.wm_ordered.specs.Waiting.{serial_of, HavePlaces, HasOwnPlace, is_up, is_ahead}

-- a serial finds the job among the items, each of which has a serial and a place of its own
pub record IsFoundBy (serial : ℕ) (w : Waiter) (items : List Waiter) : Type 0 where
  pub sorted : IsSortedOnce serial_of nat_cmp items
  pub places : HavePlaces items
  pub found : with_key serial_of nat_eq serial items ≡ Some w

-- a job may take the place of another, which has its serial
pub record Replaces (new old : Waiter) (items : List Waiter) : Type 0 where
  pub old_one : IsFoundBy new.serial old items
  pub own : HasOwnPlace new items

-- the rows are those of items among which it may, with room for each
pub record HasReplaced {K V : Type 0} (key : Waiter → K) (told : Waiter → V) (test : Waiter → Bool) (new old : Waiter) (rows : Pairs K V) : Type 0 where
  pub items : List Waiter
  pub replaces : Replaces new old items
  pub index : IsIndex key told test items rows.items
  pub room : length items ≤ capacity_of rows

-- both have the same turn or none, and both become due at the same moment or not at all
pub record IsListedAlike (clock : ℕ) (old new : Waiter) : Type 0 where
  pub up : is_up clock old ≡ is_up clock new
  pub spot : is_up clock old ≡ true → spot_of old ≡ spot_of new
  pub ahead : is_ahead clock old ≡ is_ahead clock new
  pub due : is_ahead clock old ≡ true → old.due ≡ new.due

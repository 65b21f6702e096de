-- How those that become due are brought from the one index to the other.
use Rattle.std.specs.Prelude.{◌≡◌, ℕ, ◌<◌, ◌≤◌, ◌⊎◌, true, List, length, map}
use Rattle.std.specs.List.{Contains}
use Rattle.wm_ordered.specs.Ordered.{Pairs}
use Rattle.wm_ordered.specs.declared.waiter.Waiter.{Waiter}
use Rattle.wm_ordered.specs.declared.keys.Spot.{Spot}
use Rattle.wm_ordered.specs.declared.keys.Rise.{Rise}
use Rattle.wm_ordered.specs.Index.{capacity_of}
use Rattle.wm_ordered.specs.Keys.{row_of, waiters_of, spot_of, rise_of, nothing_of}
use Rattle.wm_ordered.specs.Waiting.{HavePlaces, is_up, is_ahead}

-- on the way to a moment: of the items that are due by then each stands in one of the two indexes, where it isn't held
pub record IsUnderway (now : ℕ) (items : List Waiter) (turns : List (Spot × ℕ)) (early : List (Rise × Unit {0})) : Type 0 where
  pub turn : (r : Spot × ℕ) → Contains turns r → (w : Waiter) × (r ≡ (spot_of w, w.serial)) × (is_up now w ≡ true) × Contains items w × (Contains early (rise_of w, nothing_of w) → ⊥)
  pub rise : (r : Rise × Unit {0}) → Contains early r → (w : Waiter) × (r ≡ (rise_of w, nothing_of w)) × Contains items w
  pub up : (w : Waiter) → Contains items w → is_up now w ≡ true → Contains turns (spot_of w, w.serial) ⊎ Contains early (rise_of w, nothing_of w)
  pub ahead : (w : Waiter) → Contains items w → is_ahead now w ≡ true → Contains early (rise_of w, nothing_of w)

-- the two indexes are those of the items on their way to a moment, and a turn for each has room
pub record AreUnderway (now : ℕ) (by_serial : Pairs ℕ Waiter) (by_spot : Pairs Spot ℕ) (by_rise : Pairs Rise (Unit {0})) : Type 0 where
  pub keyed : by_serial.items ≡ map row_of (waiters_of by_serial.items)
  pub places : HavePlaces (waiters_of by_serial.items)
  pub underway : IsUnderway now (waiters_of by_serial.items) by_spot.items by_rise.items
  pub room : length by_serial.items ≤ capacity_of by_spot

-- each is due above a moment
abbrev pub AllAbove : ℕ → List (Rise × Unit {0}) → Type 0
AllAbove now early = (r : Rise × Unit {0}) → Contains early r → now < r.0.due

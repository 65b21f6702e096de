-- What lies in the slots.
use Rattle.std.specs.Prelude.{◌≡◌, ℕ, ◌+◌, ◌*◌, ◌≤◌, ◌<◌, List, length, Option, option_map}
use Rattle.std.specs.List.{filter_map}
use Rattle.std.specs.Ordering.{nat_cmp}
use Rattle.wm_desc.specs.Place.{IsGap}
use Rattle.wm_desc.specs.Sorted.{IsSortedOnce}
use Rattle.wm_ordered.specs.Ordered.{Pairs}
use Rattle.wm_ordered.specs.declared.slot.Slot.{Slot}

-- what slots are sorted by
abbrev pub serial_of : {V : Type 0} → Slot V → ℕ
serial_of slot = slot.serial

-- the slot of a serial and a value, or of none
abbrev pub slot_with : {V : Type 0} → ℕ → Option V → Slot V
slot_with serial value = record { serial = serial; value = value }

-- the pair of a slot, where it has a value
abbrev pub pair_of : {V : Type 0} → Slot V → Option (ℕ × V)
pair_of slot = option_map (λ value. (slot.serial, value)) slot.value

-- the pairs of slots
abbrev pub pairs_in : {V : Type 0} → List (Slot V) → List (ℕ × V)
pairs_in slots = filter_map pair_of slots

-- what is seen of slots with room for a number of pairs
abbrev pub seen : {V : Type 0} → List (Slot V) → ℕ → Pairs ℕ V
seen slots room = record { items = pairs_in slots; spare = room }

-- slots ascend, and pairs are counted; all slots are at least twice the pairs that there are or may be
pub record AreSlots {V : Type 0} (slots : List (Slot V)) (len room capacity : ℕ) : Type 0 where
  pub sorted : IsSortedOnce serial_of nat_cmp slots
  pub counted : len ≡ length (pairs_in slots)
  pub fits : 2 * (len + room) ≤ capacity

-- a serial has no slot and would have it at a place, and there is room for one more
pub record IsFree {V : Type 0} (serial : ℕ) (slots : List (Slot V)) (capacity at : ℕ) : Type 0 where
  pub gap : IsGap serial_of nat_cmp serial slots at
  pub room : length slots < capacity

use Rattle.std.proofs.Common.{ℕ, subst}
use Rattle.std.specs.Ordering.{nat_cmp}
use Rattle.wm_desc.specs.Sorted.{IsSortedOnce}
use Rattle.wm_ordered.specs.Ordered.{Pairs, key_of}
use Rattle.wm_ordered.specs.declared.slot.Slot.{Slot}
use Rattle.wm_ordered.specs.Slots.{serial_of}
use Rattle.wm_ordered.proofs.Parted.{sorted-parted}
use Rattle.wm_ordered.proofs.slots.Slots.len.Goals as goal

pub returns-clause-sorted : goal.returns-clause-sorted
returns-clause-sorted g c =
    subst (λ (p : Pairs ℕ g.row.V.Denot). IsSortedOnce key_of nat_cmp p.items) c.self.view_is (sorted-parted serial_of (λ (s : Slot g.row.V.Denot). s.value) nat_cmp c.self.inside.slots.items c.self.invariant.sorted)

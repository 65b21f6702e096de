use Rattle.std.proofs.Common.{◌≡◌, drop, slice_get}
use Rattle.wm_ordered.specs.Slots.{pairs_in}
use Rattle.wm_ordered.proofs.slot_find.first_pair.Given as goal

-- the slots so far are empty
abbrev pub invariant-loop-at : goal.invariant-loop-at
invariant-loop-at g l = slice_get (pairs_in (drop l.at l.slots)) 0 ≡ slice_get (pairs_in (drop l.from l.slots)) 0

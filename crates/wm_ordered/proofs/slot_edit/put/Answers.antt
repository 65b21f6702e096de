use Rattle.std.proofs.Common.{◌≡◌, ◌+◌, false, length, nat_eq, Some, ap, sym, ◌∙◌, subst}
use Rattle.std.specs.Ordering.{nat_cmp}
use Rattle.std.proofs.lemmas.Cmp.{nat_cmp_total}
use Rattle.wm_desc.specs.Sorted.{IsSortedOnce, has_key, added}
use Rattle.wm_desc.proofs.SortedLists.{sorted-insert}
use Rattle.wm_ordered.specs.Ordered.{key_of}
use Rattle.wm_ordered.specs.Slots.{serial_of, slot_with, pairs_in}
use Rattle.wm_ordered.proofs.SlotPlaced.{added-at, added-gap, empty-new, length-at, length-gap, sorted-set}
use Rattle.wm_ordered.proofs.slot_edit.put.Goals as goal

pub returns-in-Ok-clause-pairs : goal.returns-in-Ok-clause-pairs
returns-in-Ok-clause-pairs g c =
    let k = c.args.serial in
    let xs = c.place_with_room.new.slots.items in
    let new = subst (λ ps. has_key key_of nat_eq k ps ≡ false) (sym c.place_with_room.ensures.pairs) c.requires.new in
    ap pairs_in c.write.ensures.items ∙ (added-at k xs c.in-Ok.at c.in-Ok.ensures.place (slot_with k (Some c.args.value)) c.args.value new ∙ ap (added key_of nat_cmp (k, c.args.value)) c.place_with_room.ensures.pairs)

pub returns-in-Ok-clause-len : goal.returns-in-Ok-clause-len
returns-in-Ok-clause-len g c =
    let k = c.args.serial in
    let xs = c.place_with_room.new.slots.items in
    let d = slot_with k (Some c.args.value) in
    let new = subst (λ ps. has_key key_of nat_eq k ps ≡ false) (sym c.place_with_room.ensures.pairs) c.requires.new in
    let empty = empty-new k xs c.in-Ok.at c.in-Ok.ensures.place d new in
    ap (λ l. length (pairs_in l)) c.write.ensures.items ∙ (length-at k xs c.in-Ok.at c.in-Ok.ensures.place d empty c.args.value ∙ ap (λ ps. length ps + 1) c.place_with_room.ensures.pairs)

pub returns-in-Ok-clause-sorted : goal.returns-in-Ok-clause-sorted
returns-in-Ok-clause-sorted g c =
    subst (IsSortedOnce serial_of nat_cmp) (sym c.write.ensures.items) (sorted-set c.args.serial c.place_with_room.new.slots.items c.in-Ok.at c.in-Ok.ensures.place (Some c.args.value) c.place_with_room.ensures.sorted)

pub returns-in-Err-clause-pairs : goal.returns-in-Err-clause-pairs
returns-in-Err-clause-pairs g c =
    let k = c.args.serial in
    let xs = c.place_with_room.new.slots.items in
    ap pairs_in c.put_in.ensures.items ∙ (added-gap k xs c.in-Err.at c.in-Err.ensures.place.gap c.args.value ∙ ap (added key_of nat_cmp (k, c.args.value)) c.place_with_room.ensures.pairs)

pub returns-in-Err-clause-len : goal.returns-in-Err-clause-len
returns-in-Err-clause-len g c =
    let k = c.args.serial in
    let xs = c.place_with_room.new.slots.items in
    ap (λ l. length (pairs_in l)) c.put_in.ensures.items ∙ (length-gap k xs c.in-Err.at c.in-Err.ensures.place.gap c.args.value ∙ ap (λ ps. length ps + 1) c.place_with_room.ensures.pairs)

pub returns-in-Err-clause-sorted : goal.returns-in-Err-clause-sorted
returns-in-Err-clause-sorted g c =
    let k = c.args.serial in
    subst (IsSortedOnce serial_of nat_cmp) (sym c.put_in.ensures.items) (sorted-insert serial_of nat_cmp nat_cmp_total (slot_with k (Some c.args.value)) c.place_with_room.new.slots.items c.in-Err.at c.place_with_room.ensures.sorted c.in-Err.ensures.place.gap)

use Rattle.std.proofs.Common.{◌≡◌, ap, sym, ◌∙◌, arith}
use Rattle.wm_ordered.specs.declared.slot.Slot.{Slot}
use Rattle.wm_ordered.proofs.SlotCounted.{counted}
use Rattle.wm_ordered.proofs.slot_find.place_by_count.Goals as goal

-- the slot that is read there has the serial
pub returns-then-eq : goal.returns-then-eq
returns-then-eq g c =
    let read = c.in_ok-get.ensures.lookup.3 in
    let same : c.in_ok-get.field-0.now.serial ≡ c.args.serial = grind (arith, c.eq.ensures, c.if-eq.true) in
    counted c.args.slots.now c.args.serial c.in_ok-at.at c.requires read.0 (λ d. ap (λ (s : Slot g.row.V.Denot). s.serial) (sym (read.1 d)) ∙ same)

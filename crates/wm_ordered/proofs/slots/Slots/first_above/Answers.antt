use Rattle.std.proofs.Common.{◌≡◌, ◌+◌, ℕ, suc, drop, slice_get, List, None, ap, sym, ◌∙◌, subst, arith}
use Rattle.std.specs.Ordering.{nat_cmp}
use Rattle.wm_desc.specs.Place.{IsAt, IsGap}
use Rattle.wm_ordered.specs.Ordered.{Pairs, first_above}
use Rattle.wm_ordered.specs.declared.slot.Slot.{Slot}
use Rattle.wm_ordered.specs.Slots.{serial_of, slot_with, pairs_in}
use Rattle.wm_ordered.proofs.SlotPlaced.{above-at, above-none}
use Rattle.wm_ordered.proofs.slots.Slots.first_above.Goals as goal

pub returns-in-Ok : goal.returns-in-Ok
returns-in-Ok g c =
    let k = c.args.serial in
    let xs = c.self.inside.slots.items in
    let same = ap (λ (p : Pairs ℕ g.row.V.Denot). p.items) c.self.view_is in
    let at = subst (λ xs. IsAt serial_of nat_cmp k xs c.in-Ok.at) c.deref.ensures.value c.in-Ok.ensures in
    let next : c.in-Ok.at + 1 ≡ suc c.in-Ok.at = omega arith in
    c.first_pair.ensures ∙ (ap (λ (l : List (Slot g.row.V.Denot)). slice_get (pairs_in (drop (c.in-Ok.at + 1) l)) 0) c.deref-in-Ok.ensures.value ∙ (ap (λ n. slice_get (pairs_in (drop n xs)) 0) next ∙ (sym (above-at k xs c.in-Ok.at at (slot_with k None)) ∙ ap (first_above nat_cmp k) same)))

pub returns-in-Err : goal.returns-in-Err
returns-in-Err g c =
    let k = c.args.serial in
    let xs = c.self.inside.slots.items in
    let same = ap (λ (p : Pairs ℕ g.row.V.Denot). p.items) c.self.view_is in
    let gap = subst (λ xs. IsGap serial_of nat_cmp k xs c.in-Err.at) c.deref.ensures.value c.in-Err.ensures in
    c.first_pair-in-Err.ensures ∙ (ap (λ (l : List (Slot g.row.V.Denot)). slice_get (pairs_in (drop c.in-Err.at l)) 0) c.deref-in-Err.ensures.value ∙ (sym (above-none k xs c.in-Err.at gap) ∙ ap (first_above nat_cmp k) same))

use Rattle.std.proofs.Common.{ℕ, nat_eq, ap, sym, ◌∙◌, subst}
use Rattle.std.specs.Ordering.{nat_cmp}
use Rattle.wm_desc.specs.Place.{IsAt, IsGap}
use Rattle.wm_ordered.specs.Ordered.{Pairs, value_at}
use Rattle.wm_ordered.specs.declared.slot.Slot.{Slot}
use Rattle.wm_ordered.specs.Slots.{serial_of}
use Rattle.wm_ordered.proofs.SlotPlaced.{value-at, value-gap}
use Rattle.wm_ordered.proofs.slots.Slots.get.Goals as goal

pub returns-in-Ok : goal.returns-in-Ok
returns-in-Ok g c =
    let k = c.args.serial in
    let same = ap (λ (p : Pairs ℕ g.row.V.Denot). p.items) c.self.view_is in
    let at = subst (λ xs. IsAt serial_of nat_cmp k xs c.in-Ok.at) c.deref.ensures.value c.in-Ok.ensures in
    ap (λ (s : Slot g.row.V.Denot). s.value) c.index.ensures ∙ (sym (value-at k c.self.inside.slots.items c.in-Ok.at at c.index.result.now) ∙ ap (value_at nat_eq k) same)

pub returns-in-Err : goal.returns-in-Err
returns-in-Err g c =
    let k = c.args.serial in
    let same = ap (λ (p : Pairs ℕ g.row.V.Denot). p.items) c.self.view_is in
    let gap = subst (λ xs. IsGap serial_of nat_cmp k xs c.in-Err.field-0) c.deref.ensures.value c.in-Err.ensures in
    sym (value-gap k c.self.inside.slots.items c.in-Err.field-0 gap) ∙ ap (value_at nat_eq k) same

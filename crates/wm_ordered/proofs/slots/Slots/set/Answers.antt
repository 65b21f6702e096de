use Rattle.std.proofs.Common.{ℕ, length, nat_eq, List, Some, ap, sym, ◌∙◌, subst, arith}
use Rattle.std.specs.Ordering.{nat_cmp}
use Rattle.wm_desc.specs.Place.{IsAt, IsGap}
use Rattle.wm_desc.specs.Sorted.{IsSortedOnce}
use Rattle.wm_ordered.specs.Ordered.{Pairs, value_at, with_value}
use Rattle.wm_ordered.specs.declared.slot.Slot.{Slot}
use Rattle.wm_ordered.specs.Slots.{serial_of, pairs_in}
use Rattle.wm_ordered.proofs.SlotPlaced.{value-at, value-gap, set-at, set-gap, set-empty, length-set_at, sorted-set}
use Rattle.wm_ordered.proofs.slots.Slots.set.Goals as goal

pub returns-in_default-clause-was : goal.returns-in_default-clause-was
returns-in_default-clause-was g c =
    let k = c.args.serial in
    let same = ap (λ (p : Pairs ℕ g.row.V.Denot). p.items) c.self.view_is in
    let gap = subst (λ xs. IsGap serial_of nat_cmp k xs c.in_default.field-0) c.deref.ensures.value c.in_default.ensures in
    sym (value-gap k c.self.inside.slots.items c.in_default.field-0 gap) ∙ ap (value_at nat_eq k) same

pub returns-in_default-clause-items : goal.returns-in_default-clause-items
returns-in_default-clause-items g c =
    let k = c.args.serial in
    let same = ap (λ (p : Pairs ℕ g.row.V.Denot). p.items) c.self.view_is in
    let gap = subst (λ xs. IsGap serial_of nat_cmp k xs c.in_default.field-0) c.deref.ensures.value c.in_default.ensures in
    sym same ∙ (sym (set-gap k c.self.inside.slots.items c.in_default.field-0 gap c.args.value) ∙ ap (with_value nat_eq k c.args.value) same)

pub returns-in_default-value-clause-was : goal.returns-in_default-value-clause-was
returns-in_default-value-clause-was g c =
    let k = c.args.serial in
    let same = ap (λ (p : Pairs ℕ g.row.V.Denot). p.items) c.self.view_is in
    let at = subst (λ xs. IsAt serial_of nat_cmp k xs c.in-Ok.at) c.deref.ensures.value c.in-Ok.ensures in
    let empty = sym (ap (λ (s : Slot g.row.V.Denot). s.value) c.index.ensures) ∙ c.in_default-value.is in
    sym empty ∙ (sym (value-at k c.self.inside.slots.items c.in-Ok.at at c.index.result.now) ∙ ap (value_at nat_eq k) same)

pub returns-in_default-value-clause-items : goal.returns-in_default-value-clause-items
returns-in_default-value-clause-items g c =
    let k = c.args.serial in
    let same = ap (λ (p : Pairs ℕ g.row.V.Denot). p.items) c.self.view_is in
    let at = subst (λ xs. IsAt serial_of nat_cmp k xs c.in-Ok.at) c.deref.ensures.value c.in-Ok.ensures in
    let empty = sym (ap (λ (s : Slot g.row.V.Denot). s.value) c.index.ensures) ∙ c.in_default-value.is in
    sym same ∙ (sym (set-empty k c.self.inside.slots.items c.in-Ok.at at c.index.result.now c.args.value empty) ∙ ap (with_value nat_eq k c.args.value) same)

pub invariant_of-self : goal.invariant_of-self
invariant_of-self g c =
    let k = c.args.serial in
    let at = subst (λ xs. IsAt serial_of nat_cmp k xs c.in-Ok.at) c.deref.ensures.value c.in-Ok.ensures in
    let full = sym (ap (λ (s : Slot g.row.V.Denot). s.value) c.index.ensures) ∙ c.in-Some.is in
    let kept = length-set_at k c.self.inside.slots.items c.in-Ok.at at c.index.result.now c.in-Some.was c.args.value full in
    let there = ap (λ (l : List (Slot g.row.V.Denot)). length (pairs_in l)) c.write.ensures.items in
    record {
      sorted = subst (IsSortedOnce serial_of nat_cmp) (sym c.write.ensures.items) (sorted-set k c.self.inside.slots.items c.in-Ok.at at (Some c.args.value) c.self.invariant.sorted);
      counted = omega (arith, kept, there, c.self.invariant.counted);
      fits = omega (arith, c.self.invariant.fits, c.write.ensures.capacity);
    }

pub returns-clause-was : goal.returns-clause-was
returns-clause-was g c =
    let k = c.args.serial in
    let same = ap (λ (p : Pairs ℕ g.row.V.Denot). p.items) c.self.view_is in
    let at = subst (λ xs. IsAt serial_of nat_cmp k xs c.in-Ok.at) c.deref.ensures.value c.in-Ok.ensures in
    let full = sym (ap (λ (s : Slot g.row.V.Denot). s.value) c.index.ensures) ∙ c.in-Some.is in
    sym full ∙ (sym (value-at k c.self.inside.slots.items c.in-Ok.at at c.index.result.now) ∙ ap (value_at nat_eq k) same)

pub returns-clause-items : goal.returns-clause-items
returns-clause-items g c =
    let k = c.args.serial in
    let same = ap (λ (p : Pairs ℕ g.row.V.Denot). p.items) c.self.view_is in
    let at = subst (λ xs. IsAt serial_of nat_cmp k xs c.in-Ok.at) c.deref.ensures.value c.in-Ok.ensures in
    let full = sym (ap (λ (s : Slot g.row.V.Denot). s.value) c.index.ensures) ∙ c.in-Some.is in
    ap pairs_in c.write.ensures.items ∙ (set-at k c.self.inside.slots.items c.in-Ok.at at c.index.result.now c.in-Some.was c.args.value full ∙ ap (with_value nat_eq k c.args.value) same)

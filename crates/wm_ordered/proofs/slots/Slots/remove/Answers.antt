use Rattle.std.proofs.Common.{ℕ, length, nat_eq, List, None, ap, sym, ◌∙◌, subst, arith}
use Rattle.std.specs.Ordering.{nat_cmp}
use Rattle.wm_desc.specs.Place.{IsAt, IsGap}
use Rattle.wm_desc.specs.Sorted.{IsSortedOnce, removed}
use Rattle.wm_ordered.specs.Ordered.{Pairs, key_of, value_at}
use Rattle.wm_ordered.specs.declared.slot.Slot.{Slot}
use Rattle.wm_ordered.specs.Slots.{serial_of, pairs_in}
use Rattle.wm_ordered.proofs.SlotPlaced.{value-at, value-gap, removed-at, removed-gap, removed-empty, length-removed, sorted-set}
use Rattle.wm_ordered.proofs.slots.Slots.remove.Goals as goal

pub returns-in_default-clause-value : goal.returns-in_default-clause-value
returns-in_default-clause-value g c =
    let k = c.args.serial in
    let same = ap (λ (p : Pairs ℕ g.row.V.Denot). p.items) c.self.view_is in
    let gap = subst (λ xs. IsGap serial_of nat_cmp k xs c.in_default.field-0) c.deref.ensures.value c.in_default.ensures in
    sym (value-gap k c.self.inside.slots.items c.in_default.field-0 gap) ∙ ap (value_at nat_eq k) same

pub returns-in_default-clause-items : goal.returns-in_default-clause-items
returns-in_default-clause-items g c =
    let k = c.args.serial in
    let same = ap (λ (p : Pairs ℕ g.row.V.Denot). p.items) c.self.view_is in
    let gap = subst (λ xs. IsGap serial_of nat_cmp k xs c.in_default.field-0) c.deref.ensures.value c.in_default.ensures in
    sym same ∙ (sym (removed-gap k c.self.inside.slots.items c.in_default.field-0 gap) ∙ ap (removed key_of nat_eq k) same)

pub returns-in_default-value-clause-value : goal.returns-in_default-value-clause-value
returns-in_default-value-clause-value g c =
    let k = c.args.serial in
    let same = ap (λ (p : Pairs ℕ g.row.V.Denot). p.items) c.self.view_is in
    let at = subst (λ xs. IsAt serial_of nat_cmp k xs c.in-Ok.at) c.deref.ensures.value c.in-Ok.ensures in
    let empty = sym (ap (λ (s : Slot g.row.V.Denot). s.value) c.index.ensures) ∙ c.in_default-value.is in
    sym empty ∙ (sym (value-at k c.self.inside.slots.items c.in-Ok.at at c.index.result.now) ∙ ap (value_at nat_eq k) same)

pub returns-in_default-value-clause-items : goal.returns-in_default-value-clause-items
returns-in_default-value-clause-items g c =
    let k = c.args.serial in
    let same = ap (λ (p : Pairs ℕ g.row.V.Denot). p.items) c.self.view_is in
    let at = subst (λ xs. IsAt serial_of nat_cmp k xs c.in-Ok.at) c.deref.ensures.value c.in-Ok.ensures in
    let empty = sym (ap (λ (s : Slot g.row.V.Denot). s.value) c.index.ensures) ∙ c.in_default-value.is in
    sym same ∙ (sym (removed-empty k c.self.inside.slots.items c.in-Ok.at at c.index.result.now empty) ∙ ap (removed key_of nat_eq k) same)

pub overflow_sub-self : goal.overflow_sub-self
overflow_sub-self g c =
    let k = c.args.serial in
    let at = subst (λ xs. IsAt serial_of nat_cmp k xs c.in-Ok.at) c.deref.ensures.value c.in-Ok.ensures in
    let full = sym (ap (λ (s : Slot g.row.V.Denot). s.value) c.index.ensures) ∙ c.in-Some.is in
    let less = length-removed k c.self.inside.slots.items c.in-Ok.at at c.index.result.now c.in-Some.value full in
    omega (arith, less, c.self.invariant.counted)

pub invariant_of-self : goal.invariant_of-self
invariant_of-self g c =
    let k = c.args.serial in
    let at = subst (λ xs. IsAt serial_of nat_cmp k xs c.in-Ok.at) c.deref.ensures.value c.in-Ok.ensures in
    let full = sym (ap (λ (s : Slot g.row.V.Denot). s.value) c.index.ensures) ∙ c.in-Some.is in
    let less = length-removed k c.self.inside.slots.items c.in-Ok.at at c.index.result.now c.in-Some.value full in
    let left = ap (λ (l : List (Slot g.row.V.Denot)). length (pairs_in l)) c.write.ensures.items in
    record {
      sorted = subst (IsSortedOnce serial_of nat_cmp) (sym c.write.ensures.items) (sorted-set k c.self.inside.slots.items c.in-Ok.at at None c.self.invariant.sorted);
      counted = omega (arith, less, left, c.self.invariant.counted);
      fits = omega (arith, less, c.self.invariant.counted, c.self.invariant.fits, c.write.ensures.capacity);
    }

pub returns-clause-value : goal.returns-clause-value
returns-clause-value g c =
    let k = c.args.serial in
    let same = ap (λ (p : Pairs ℕ g.row.V.Denot). p.items) c.self.view_is in
    let at = subst (λ xs. IsAt serial_of nat_cmp k xs c.in-Ok.at) c.deref.ensures.value c.in-Ok.ensures in
    let full = sym (ap (λ (s : Slot g.row.V.Denot). s.value) c.index.ensures) ∙ c.in-Some.is in
    sym full ∙ (sym (value-at k c.self.inside.slots.items c.in-Ok.at at c.index.result.now) ∙ ap (value_at nat_eq k) same)

pub returns-clause-items : goal.returns-clause-items
returns-clause-items g c =
    let k = c.args.serial in
    let same = ap (λ (p : Pairs ℕ g.row.V.Denot). p.items) c.self.view_is in
    let at = subst (λ xs. IsAt serial_of nat_cmp k xs c.in-Ok.at) c.deref.ensures.value c.in-Ok.ensures in
    ap pairs_in c.write.ensures.items ∙ (removed-at k c.self.inside.slots.items c.in-Ok.at at c.index.result.now ∙ ap (removed key_of nat_eq k) same)

use Rattle.std.proofs.Common.{◌≡◌, rules, is_some, length, sym, subst, ◌∙◌, ap}
use Rattle.std.specs.List.{filter}
use Rattle.std.specs.Ordering.{nat_cmp}
use Rattle.std.proofs.lemmas.List.Kept.{AllPairs-filter}
use Rattle.std.specs.declared.cmp.Ordering.TheVariants.{Less}
use Rattle.wm_desc.specs.Sorted.{IsSortedOnce}
use Rattle.wm_desc.proofs.Places.{filter-retain}
use Rattle.wm_ordered.specs.declared.slot.Slot.{Slot}
use Rattle.wm_ordered.specs.Slots.{serial_of, pairs_in}
use Rattle.wm_ordered.proofs.SlotParts.{pairs-full, length-full}
use Rattle.wm_ordered.proofs.slot_edit.compact.Goals as goal

pub returns-clause-pairs : goal.returns-clause-pairs
returns-clause-pairs g c =
    let kept : c.retain.new.self.items ≡ filter (λ s. is_some s.value) c.args.slots.now.items = filter-retain _ (λ s. is_some s.value) _ (λ x b g called. (search rules, search rules)) c.args.slots.now.items c.retain.new.self.items c.retain.ensures.filtered in
    ap pairs_in kept ∙ pairs-full c.args.slots.now.items

pub returns-clause-full : goal.returns-clause-full
returns-clause-full g c =
    let kept : c.retain.new.self.items ≡ filter (λ s. is_some s.value) c.args.slots.now.items = filter-retain _ (λ s. is_some s.value) _ (λ x b g called. (search rules, search rules)) c.args.slots.now.items c.retain.new.self.items c.retain.ensures.filtered in
    subst (λ xs. length xs ≡ length (pairs_in xs)) (sym kept) (length-full c.args.slots.now.items)

pub returns-clause-sorted : goal.returns-clause-sorted
returns-clause-sorted g c =
    let kept : c.retain.new.self.items ≡ filter (λ s. is_some s.value) c.args.slots.now.items = filter-retain _ (λ s. is_some s.value) _ (λ x b g called. (search rules, search rules)) c.args.slots.now.items c.retain.new.self.items c.retain.ensures.filtered in
    subst (IsSortedOnce serial_of nat_cmp) (sym kept) (AllPairs-filter (λ (x y : Slot g.row.V.Denot). nat_cmp x.serial y.serial ≡ Less) (λ s. is_some s.value) _ c.requires)

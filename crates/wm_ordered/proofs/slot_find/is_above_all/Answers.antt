use Rattle.std.proofs.Common.{◌≡◌, ◌<◌, ◌-◌, length, sym, ◌∙◌, subst, arith}
use Rattle.std.specs.Ordering.{nat_cmp}
use Rattle.std.specs.declared.cmp.Ordering.TheVariants.{Less}
use Rattle.wm_base.proofs.Orderings.{is_lt-Less}
use Rattle.wm_ordered.specs.declared.slot.Slot.{Slot}
use Rattle.wm_ordered.proofs.SlotCounted.{at_end}
use Rattle.wm_ordered.proofs.slot_find.is_above_all.Goals as goal

-- the last slot is read
pub returns-in-Some : goal.returns-in-Some
returns-in-Some g c = λ above.
    let read = c.in-Some.ensures.item.3 in
    let some : 0 < length c.args.slots.now = read.0 in
    at_end c.args.slots.now c.args.serial (length c.args.slots.now - 1) c.requires (omega (arith, some)) (omega (arith, some))
    (λ d. subst (λ (s : Slot g.row.V.Denot). nat_cmp s.serial c.args.serial ≡ Less) (read.1 d) (is_lt-Less _ (sym c.lt.ensures ∙ above)))

use Rattle.std.proofs.Common.{◌≡◌, length, refl, ap, arith}
use Rattle.wm_jobs.proofs.AtEnd.{new-inside}
use Rattle.wm_jobs.proofs.Stood.{agrees, none-placed, undoable-here}
use Rattle.wm_jobs.proofs.table.JobTable.empty.Goals as goal

pub invariant_of-result : goal.invariant_of-result
invariant_of-result c =
    let none-yet : length c.new.result.items ≡ 0 = ap length c.new.ensures.items in
    let none : length c.new-2.result.items ≡ 0 = ap length c.new-2.ensures.items in
    let untouched : length c.new-8.result.items ≡ 0 = ap length c.new-8.ensures.items in
    agrees _
    (new-inside _ c.new.ensures.items c.new-2.ensures.items c.new-3.ensures.hows c.new-4.ensures.items c.new-6.ensures.items c.new-7.ensures.items refl refl c.requires c.new-5.ensures.names)
    (record { to_wait = omega (arith, untouched); to_count = omega arith; to_list = omega arith; to_seat = omega arith; to_name = omega arith })
    (λ kept. undoable-here _ _ _ kept (none-placed _ c.new-2.ensures.items) c.new-8.ensures.items (omega (arith, none-yet)) refl refl (omega arith))
    (record { there = omega arith; to_touch = omega arith })

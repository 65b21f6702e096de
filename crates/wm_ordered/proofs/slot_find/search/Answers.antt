use Rattle.std.proofs.Common.{rules}
use Rattle.std.proofs.lemmas.Cmp.{nat_cmp_total}
use Rattle.std.proofs.lemmas.Fn.{always_returns_same}
use Rattle.std.specs.Ordering.{nat_cmp}
use Rattle.wm_desc.proofs.SortedLists.{searched}
use Rattle.wm_ordered.specs.Slots.{serial_of}
use Rattle.wm_ordered.proofs.slot_find.search.Goals as goal

-- the closure compares a slot's serial with the one that is sought
pub returns : goal.returns
returns g c =
    let facts = c.binary_search_by.ensures in
    let by_serial = facts.position (λ s. nat_cmp (serial_of s) c.args.serial) (always_returns_same _ _ _ (λ a r f' called. (search rules, search rules))) in
    searched serial_of nat_cmp nat_cmp_total c.args.slots.now c.args.serial _ c.requires facts.bound by_serial

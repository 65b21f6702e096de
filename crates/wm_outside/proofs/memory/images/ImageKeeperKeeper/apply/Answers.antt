use Rattle.std.proofs.Common.{rules, ◌≡◌, subst}
use Rattle.wm_traits.specs.InOrder.{changed_in_order}
use Rattle.wm_traits.specs.Rows.{IsInOrder, changed}
use Rattle.wm_outside.proofs.memory.images.ImageKeeperKeeper.apply.Goals as goal

pub invariant_of-self-2 : goal.invariant_of-self-2
invariant_of-self-2 c =
    let same : changed c.args.changes.now c.args.self.now.present.items ≡ c.replace-before.new.dest.items = search rules in
    record { in_order = subst IsInOrder same (changed_in_order c.args.changes.now c.args.self.now.present.items c.args.self.now.in_order) }

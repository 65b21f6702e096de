use Rattle.std.proofs.Common.{◌≡◌, ◌+◌, length, ap, ◌∙◌, arith}
use Rattle.std.specs.Ordering.{nat_cmp}
use Rattle.wm_ordered.specs.Ordered.{key_of}
use Rattle.wm_ordered.proofs.Keyed.{length-added}
use Rattle.wm_jobs.proofs.counts.put_order.Goals as goal

pub returns-then-is_starting-clause-nodes : goal.returns-then-is_starting-clause-nodes
returns-then-is_starting-clause-nodes c =
    let more : length c.insert.new.self.items ≡ length c.args.starting.now.items + 1 = ap length c.insert.ensures.items ∙ length-added key_of nat_cmp (c.args.serial, tt) c.args.starting.now.items in
    omega (arith, more, c.insert.ensures.spare)

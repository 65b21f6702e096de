use Rattle.std.proofs.Common.{length, ap, arith}
use Rattle.wm_desc.specs.declared.entry.QueueEntry.{QueueEntry}
use Rattle.wm_pick.proofs.ByHeads.{queues_lent}
use Rattle.wm_pick.proofs.parts.Parts.first_by_heads.Goals as goal

pub returns-clause-looks : goal.returns-clause-looks
returns-clause-looks g c =
    let same = queues_lent _ c.args.self.now c.self.view_is c.args.sbs.now c.in_ok-sbs.sbs.now c.in_ok-description.description.now c.in_ok-sbs.ensures c.in_ok-description.ensures in
    omega (arith, c.first_head.ensures.looks, ap (length {A = QueueEntry}) same)

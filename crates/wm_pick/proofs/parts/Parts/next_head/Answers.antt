use Rattle.wm_pick.proofs.LentHeads.{next_head_by_waiting, no_heads_held}
use Rattle.wm_pick.proofs.parts.Parts.next_head.Goals as goal

pub returns-then-is_held-clause-head : goal.returns-then-is_held-clause-head
returns-then-is_held-clause-head g c = no_heads_held c.args.self.now c.args.queue.now c.args.pty c.is_held.result c.is_held.ensures c.if-is_held.true

pub returns-clause-head : goal.returns-clause-head
returns-clause-head g c =
    next_head_by_waiting _ c.args.self.now c.args.queue.now c.args.pty c.self.inside.waiting.now c.self.inside.tally.now c.next_head.result c.is_held.result
    c.self.view_is c.self.invariant c.is_held.ensures c.if-is_held.false c.next_head.ensures.head

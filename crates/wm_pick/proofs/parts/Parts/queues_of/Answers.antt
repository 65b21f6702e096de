use Rattle.wm_pick.proofs.LentHeads.{lent_is_orderly}
use Rattle.wm_pick.proofs.parts.Parts.queues_of.Goals as goal

pub returns-clause-orderly : goal.returns-clause-orderly
returns-clause-orderly c =
    lent_is_orderly _ c.args.self.now c.self.inside.waiting.now c.self.inside.tally.now c.args.sbs.now c.queues_of.result.now
    c.self.view_is c.self.invariant c.queues_of.ensures.entries c.queues_of.ensures.sorted

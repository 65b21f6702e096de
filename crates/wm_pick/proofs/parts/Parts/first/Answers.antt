use Rattle.std.proofs.Common.{◌∙◌}
use Rattle.wm_pick.proofs.ByHeads.{heads_are_first}
use Rattle.wm_pick.proofs.parts.Parts.first.Goals as goal

pub returns-clause-first : goal.returns-clause-first
returns-clause-first g c = c.first_by_heads.ensures.head ∙ heads_are_first c.args.self.now c.args.sbs.now c.queues_of.ensures.orderly

use Rattle.std.proofs.Common.{◌∙◌, ap, length}
use Rattle.wm_jobs.proofs.JobParts.{actives-counted}
use Rattle.wm_jobs.proofs.table.JobTable.active.Goals as goal

pub returns : goal.returns
returns c = rw (← c.self.view_is) (c.len.ensures.len ∙ (ap length c.self.invariant.kept.indexed.active_are ∙ actives-counted c.self.inside.jobs.items))

use Rattle.std.proofs.Common.{◌∙◌, ap}
use Rattle.wm_indexes.specs.Active as active
use Rattle.wm_jobs.proofs.Asked.{kills-asked}
use Rattle.wm_jobs.proofs.table.JobTable.kills.Goals as goal

pub returns : goal.returns
returns c =
    rw (← c.self.view_is) (c.kills.ensures ∙ (ap (active.kills c.args.monitor) c.self.invariant.kept.indexed.active_are ∙ kills-asked c.args.monitor c.self.inside.jobs.items))

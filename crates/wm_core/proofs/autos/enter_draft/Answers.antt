use Rattle.wm_core.specs.Drafts.{site_state}
use Rattle.wm_law.specs.Launch.{as_auto}
use Rattle.wm_law.proofs.Settling.{launch_never_waits}
use Rattle.wm_core.proofs.autos.enter_draft.Goals as goal

pub push_launched-requires-clause-launched : goal.push_launched-requires-clause-launched
push_launched-requires-clause-launched c = rw c.launched-launched.ensures (launch_never_waits (site_state c.args.site.now c.args.table.now c.args.number.now) c.args.site.now.sbs (as_auto c.args.site.now.sbs) c.drafted_job-job.result)

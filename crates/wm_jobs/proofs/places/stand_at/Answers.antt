use Rattle.wm_jobs.specs.Marked.{standing_as}
use Rattle.wm_jobs.specs.Table.{serial_of}
use Rattle.wm_jobs.proofs.Splits.{changed-one}
use Rattle.wm_jobs.proofs.places.stand_at.Goals as goal

pub returns-clause-jobs : goal.returns-clause-jobs
returns-clause-jobs c = changed-one serial_of c.args.serial (standing_as c.args.standing.now) c.args.jobs.now.items c.args.at c.index_mut-job.result.now c.requires c.index_mut-job.ensures.value

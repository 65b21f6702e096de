use Rattle.std.proofs.Common.{ap, ◌∙◌}
use Rattle.wm_law.specs.Launch.{as_launched}
use Rattle.wm_jobs.specs.Marked.{standing_as}
use Rattle.wm_jobs.specs.declared.touched.Standing.{Standing}
use Rattle.wm_jobs.proofs.Restood.{alike}
use Rattle.wm_jobs.proofs.table.JobTable.launch.Goals as goal

pub returns-clause-jobs : goal.returns-clause-jobs
returns-clause-jobs c =
    let found = c.in-Some.ensures in
    c.restand.ensures.jobs
    ∙ alike c.args.self.now c.args.serial c.in-Some.found found (standing_as (record c.in-Some.found.was { phase = c.args.launched.now.phase; how = c.args.launched.now.how })) (as_launched c.args.launched.now) (ap (λ (s : Standing). standing_as (record s { phase = c.args.launched.now.phase; how = c.args.launched.now.how }) found.job) found.was)

use Rattle.std.proofs.Common.{ap, ◌∙◌}
use Rattle.wm_law.specs.Changing.{with_due}
use Rattle.wm_jobs.specs.Marked.{standing_as}
use Rattle.wm_jobs.specs.declared.touched.Standing.{Standing}
use Rattle.wm_jobs.proofs.Restood.{waiting-alike}
use Rattle.wm_jobs.proofs.table.JobTable.set_due.Goals as goal

pub returns-clause-jobs : goal.returns-clause-jobs
returns-clause-jobs c =
    let found = c.in-Some.ensures.0 in
    c.restand.ensures.jobs
    ∙ waiting-alike c.args.self.now c.args.serial c.in-Some.found found (standing_as (record c.in-Some.found.was { due = c.args.due })) (with_due c.args.due) c.in-Some.ensures.1 (ap (λ (s : Standing). standing_as (record s { due = c.args.due }) found.job) found.was)

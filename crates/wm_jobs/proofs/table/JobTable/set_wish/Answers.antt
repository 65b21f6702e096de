use Rattle.std.proofs.Common.{ap, ◌∙◌}
use Rattle.wm_law.specs.Wishes.{with_wish}
use Rattle.wm_jobs.specs.Marked.{standing_as}
use Rattle.wm_jobs.specs.declared.touched.Standing.{Standing}
use Rattle.wm_jobs.proofs.Restood.{active-alike}
use Rattle.wm_jobs.proofs.table.JobTable.set_wish.Goals as goal

pub returns-clause-jobs : goal.returns-clause-jobs
returns-clause-jobs c =
    let found = c.in-Some.ensures.0 in
    c.restand.ensures.jobs
    ∙ active-alike c.args.self.now c.args.serial c.in-Some.found found (standing_as (record c.in-Some.found.was { wish = c.args.wish })) (with_wish c.args.wish) c.in-Some.ensures.1 (ap (λ (s : Standing). standing_as (record s { wish = c.args.wish }) found.job) found.was)

use Rattle.std.proofs.Common.{ap, ◌∙◌}
use Rattle.wm_law.specs.declared.job.Phase.TheVariants.{Ended}
use Rattle.wm_law.specs.Reports.{in_phase}
use Rattle.wm_jobs.specs.Marked.{standing_as}
use Rattle.wm_jobs.specs.declared.touched.Standing.{Standing}
use Rattle.wm_jobs.proofs.Restood.{waiting-alike}
use Rattle.wm_jobs.proofs.table.JobTable.end_waiting.Goals as goal

pub returns-clause-jobs : goal.returns-clause-jobs
returns-clause-jobs c =
    let found = c.in-Some.ensures.0 in
    c.restand.ensures.jobs
    ∙ waiting-alike c.args.self.now c.args.serial c.in-Some.found found (standing_as (record c.in-Some.found.was { phase = Ended c.args.cause })) (in_phase (Ended c.args.cause)) c.in-Some.ensures.1 (ap (λ (s : Standing). standing_as (record s { phase = Ended c.args.cause }) found.job) found.was)

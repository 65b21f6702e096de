use Rattle.std.proofs.Common.{◌≡◌, ◌+◌, ◌-◌, ◌^◌, min, true, ap, ◌∙◌}
use Rattle.wm_law.specs.Prestart.{with_evoke}
use Rattle.wm_jobs.specs.Marked.{standing_as}
use Rattle.wm_jobs.specs.declared.touched.Standing.{Standing}
use Rattle.wm_jobs.proofs.Restood.{active-alike}
use Rattle.wm_jobs.proofs.table.JobTable.give_evoke.Goals as goal

pub returns-clause-jobs : goal.returns-clause-jobs
returns-clause-jobs c =
    let found = c.in-Some.ensures.0 in
    let same : standing_as (record c.in-Some.found.was { evoke = true; uses = c.saturating_add.result }) found.job ≡ with_evoke found.job =
    rw (c.saturating_add.ensures) (ap (λ (s : Standing). standing_as (record s { evoke = true; uses = min (s.uses + 1) (2 ^ 32 - 1) }) found.job) found.was) in
    c.restand.ensures.jobs
    ∙ active-alike c.args.self.now c.args.serial c.in-Some.found found (standing_as (record c.in-Some.found.was { evoke = true; uses = c.saturating_add.result })) with_evoke c.in-Some.ensures.1 same

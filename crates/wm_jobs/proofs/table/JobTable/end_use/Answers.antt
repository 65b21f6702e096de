use Rattle.std.proofs.Common.{◌≡◌, false, ap, ◌∙◌}
use Rattle.wm_law.specs.Prestart.{after_use, wish_after_use}
use Rattle.wm_jobs.specs.Marked.{standing_as}
use Rattle.wm_jobs.specs.declared.touched.Standing.{Standing}
use Rattle.wm_jobs.proofs.Restood.{active-alike}
use Rattle.wm_jobs.proofs.table.JobTable.end_use.Goals as goal

pub returns-clause-jobs : goal.returns-clause-jobs
returns-clause-jobs c =
    let found = c.in-Some.ensures.0 in
    let maxuse = c.args.maxuse.now in
    let to = record c.in-Some.found.was { evoke = false; wish = c.use_done-standing.result } in
    let same : standing_as to found.job ≡ after_use maxuse found.job =
    rw (c.use_done-standing.ensures) (ap (λ (s : Standing). standing_as (record s { evoke = false; wish = wish_after_use maxuse s.uses s.wish }) found.job) found.was) in
    c.restand.ensures.jobs
    ∙ active-alike c.args.self.now c.args.serial c.in-Some.found found (standing_as to) (after_use maxuse) c.in-Some.ensures.1 same

use Rattle.std.proofs.Common.{◌≡◌, ap, sym, ◌∙◌, arith}
use Rattle.wm_law.specs.declared.job.Job.{Job}
use Rattle.wm_jobs.proofs.Counted.{counted}
use Rattle.wm_jobs.proofs.places.place_by_count.Goals as goal

-- the job that is read there has the serial
pub returns-then-eq : goal.returns-then-eq
returns-then-eq c =
    let read = c.in_ok-get.ensures.lookup.3 in
    let same : c.in_ok-get.field-0.now.serial ≡ c.args.serial = grind (arith, c.eq.ensures, c.if-eq.true) in
    counted c.args.jobs.now c.args.serial c.in_ok-at.at c.requires read.0 (λ d. ap (λ (j : Job). j.serial) (sym (read.1 d)) ∙ same)

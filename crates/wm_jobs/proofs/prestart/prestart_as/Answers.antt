use Rattle.std.proofs.Common.{◌≡◌, true, cond, Some, None, ap, sym, ◌∙◌}
use Rattle.wm_base.specs.declared.job.How.{How}
use Rattle.wm_law.specs.Counts.{is_active}
use Rattle.wm_indexes.specs.declared.prestart_job.Readiness.{Readiness}
use Rattle.wm_indexes.specs.OfJobs.{entry_of, row_by}
use Rattle.wm_jobs.specs.Marked.{standing_as}
use Rattle.wm_jobs.proofs.prestart.prestart_as.Goals as goal

pub returns-in-Pre : goal.returns-in-Pre
returns-in-Pre c =
    let j = c.args.job.now in
    let st = c.args.standing.now in
    let y = standing_as st j in
    let active : is_active st.phase ≡ true = sym c.is_active.ensures ∙ c.if-not-is_active.false in
    ap (λ (r : Readiness). Some (j.serial, record { entry = entry_of c.in-Pre.sbs c.in-Pre.pgm; number = j.job.number; readiness = r })) (c.readiness.ensures j)
    ∙ sym (ap (λ b. cond b (row_by y st.how) None) active ∙ ap (λ (h : How). row_by y h) c.in-Pre.is)

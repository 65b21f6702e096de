use Rattle.std.proofs.Common.{◌∙◌, ap}
use Rattle.wm_law.specs.Prestart as law
use Rattle.wm_indexes.specs.OfJobs.{entry_of}
use Rattle.wm_indexes.specs.Ready.{available}
use Rattle.wm_indexes.proofs.OfJobs.{available_are_counted}
use Rattle.wm_jobs.specs.Table.{Table}
use Rattle.wm_jobs.proofs.table.JobTable.count_available.Goals as goal

pub returns : goal.returns
returns c =
    let sbs = c.args.sbs.now in
    let pgm = c.args.pgm.now in
    let t = c.self.inside in
    c.available.ensures
    ∙ (ap (available (entry_of sbs pgm)) c.self.invariant.kept.indexed.prestart_are
    ∙ (available_are_counted sbs pgm t.jobs.items ∙ ap (λ (v : Table). law.count_available sbs pgm v.jobs) c.self.view_is))

use Rattle.std.proofs.Common.{◌≡◌, ◌∙◌, ap, sym, None, Some, option_map}
use Rattle.wm_law.specs.Prestart as law
use Rattle.wm_indexes.specs.OfJobs.{entry_of}
use Rattle.wm_indexes.specs.Ready.{first_idle}
use Rattle.wm_indexes.proofs.OfJobs.{first_idle_is_found}
use Rattle.wm_jobs.specs.Table.{Table, serial_of}
use Rattle.wm_jobs.proofs.Lesser.{idle-there}
use Rattle.wm_jobs.proofs.One.{none-found, some-found}
use Rattle.wm_jobs.proofs.table.JobTable.first_idle.Goals as goal

pub returns-in_err-serial : goal.returns-in_err-serial
returns-in_err-serial c =
    let sbs = c.args.sbs.now in
    let pgm = c.args.pgm.now in
    let jobs = c.self.inside.jobs.items in
    let none : option_map serial_of (law.first_idle sbs pgm jobs) ≡ None = sym (first_idle_is_found sbs pgm jobs) ∙ (ap (first_idle (entry_of sbs pgm)) (sym c.self.invariant.kept.indexed.prestart_are) ∙ (sym c.first_idle.ensures ∙ c.in_err-serial.was)) in
    rw (c.from_residual.ensures, ← c.self.view_is) (sym (none-found (law.first_idle sbs pgm jobs) none))

pub returns : goal.returns
returns c =
    let sbs = c.args.sbs.now in
    let pgm = c.args.pgm.now in
    let jobs = c.self.inside.jobs.items in
    let first : option_map serial_of (law.first_idle sbs pgm jobs) ≡ Some c.in_ok-serial.serial = sym (first_idle_is_found sbs pgm jobs) ∙ (ap (first_idle (entry_of sbs pgm)) (sym c.self.invariant.kept.indexed.prestart_are) ∙ (sym c.first_idle.ensures ∙ c.in_ok-serial.was)) in
    let now : option_map serial_of (law.first_idle sbs pgm c.args.self.now.jobs) ≡ Some c.in_ok-serial.serial = ap (λ (v : Table). option_map serial_of (law.first_idle sbs pgm v.jobs)) (sym c.self.view_is) ∙ first in
    let found = some-found (law.first_idle sbs pgm c.args.self.now.jobs) c.in_ok-serial.serial now in
    c.job.ensures.one found.0 (idle-there sbs pgm c.args.self.now.jobs found.0 found.1) found.2 ∙ sym found.1

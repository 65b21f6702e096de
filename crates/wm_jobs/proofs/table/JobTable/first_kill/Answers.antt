use Rattle.std.proofs.Common.{◌≡◌, ◌∙◌, ◌==◌, ap, sym, subst, ℕ, None, Some, find, option_map}
use Rattle.std.proofs.lemmas.Bool.{eqb-true}
use Rattle.wm_indexes.specs.Active as active
use Rattle.wm_law.specs.declared.job.Job.{Job}
use Rattle.wm_law.specs.Reports.{is_to_kill}
use Rattle.wm_law.proofs.Members.{found_among}
use Rattle.wm_jobs.specs.Table.{serial_of}
use Rattle.wm_jobs.proofs.Asked.{first-asked}
use Rattle.wm_jobs.proofs.One.{none-found, serial-found}
use Rattle.wm_jobs.proofs.table.JobTable.first_kill.Goals as goal

pub returns-in_err-serial-clause-first : goal.returns-in_err-serial-clause-first
returns-in_err-serial-clause-first c =
    let jobs = c.self.inside.jobs.items in
    let none : option_map serial_of (find (is_to_kill c.args.monitor) jobs) ≡ None = sym (first-asked c.args.monitor jobs) ∙ (ap (active.first_kill c.args.monitor) (sym c.self.invariant.kept.indexed.active_are) ∙ (sym c.first_kill.ensures ∙ c.in_err-serial.was)) in
    rw (c.from_residual.ensures, ← c.self.view_is) (sym (none-found (find (is_to_kill c.args.monitor) jobs) none))

pub returns-clause-first : goal.returns-clause-first
returns-clause-first c =
    let jobs = c.self.inside.jobs.items in
    let first : option_map serial_of (find (is_to_kill c.args.monitor) jobs) ≡ Some c.in_ok-serial.serial = sym (first-asked c.args.monitor jobs) ∙ (ap (active.first_kill c.args.monitor) (sym c.self.invariant.kept.indexed.active_are) ∙ (sym c.first_kill.ensures ∙ c.in_ok-serial.was)) in
    c.job.ensures.found ∙ rw (← c.self.view_is) (serial-found (is_to_kill c.args.monitor) c.in_ok-serial.serial jobs c.self.invariant.kept.listed.sorted first)

pub returns-clause-by_serial : goal.returns-clause-by_serial
returns-clause-by_serial c j e =
    let jobs = c.args.self.now.jobs in
    let serial = c.in_ok-serial.serial in
    let found : find (λ (k : Job). k.serial == serial) jobs ≡ Some j = sym c.job.ensures.found ∙ e in
    let same : j.serial ≡ serial = eqb-true j.serial serial (found_among (λ (k : Job). k.serial == serial) jobs j found).1 in
    subst (λ (n : ℕ). find (λ (k : Job). k.serial == n) jobs ≡ Some j) (sym same) found

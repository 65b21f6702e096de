use Rattle.std.proofs.Common.{◌≡◌, ◌∙◌, ◌==◌, ap, sym, subst, ℕ, None, Some, find, slice_get}
use Rattle.std.proofs.lemmas.Bool.{eqb-true}
use Rattle.wm_law.specs.declared.job.Job.{Job}
use Rattle.wm_law.proofs.Members.{found_among}
use Rattle.wm_jobs.specs.Indexed.{orders}
use Rattle.wm_jobs.proofs.JobParts.{first-none, first-found}
use Rattle.wm_jobs.proofs.table.JobTable.first_starting.Goals as goal

pub returns-in_err-serial-clause-first : goal.returns-in_err-serial-clause-first
returns-in_err-serial-clause-first c =
    let jobs = c.self.inside.jobs.items in
    let none : slice_get (orders jobs) 0 ≡ None = ap (λ os. slice_get os 0) (sym c.self.invariant.kept.indexed.orders_are) ∙ (sym c.first.ensures ∙ c.in_err-serial.was) in
    rw (c.from_residual.ensures, ← c.self.view_is) (sym (first-none jobs none))

pub returns-clause-first : goal.returns-clause-first
returns-clause-first c =
    let jobs = c.self.inside.jobs.items in
    let first : slice_get (orders jobs) 0 ≡ Some (c.in_ok-serial.serial, c.in_ok-serial.field-0-1) = ap (λ os. slice_get os 0) (sym c.self.invariant.kept.indexed.orders_are) ∙ (sym c.first.ensures ∙ c.in_ok-serial.was) in
    c.job.ensures.found ∙ rw (← c.self.view_is) (first-found jobs c.in_ok-serial.serial c.in_ok-serial.field-0-1 c.self.invariant.kept.listed.sorted first)

pub returns-clause-by_serial : goal.returns-clause-by_serial
returns-clause-by_serial c j e =
    let jobs = c.args.self.now.jobs in
    let serial = c.in_ok-serial.serial in
    let found : find (λ (k : Job). k.serial == serial) jobs ≡ Some j = sym c.job.ensures.found ∙ e in
    let same : j.serial ≡ serial = eqb-true j.serial serial (found_among (λ (k : Job). k.serial == serial) jobs j found).1 in
    subst (λ (n : ℕ). find (λ (k : Job). k.serial == n) jobs ≡ Some j) (sym same) found

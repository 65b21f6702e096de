use Rattle.std.proofs.Common.{◌≡◌, ◌∙◌, ◌==◌, ◌<◌, ap, sym, subst, ℕ, None, Some, find, option_map, arith}
use Rattle.std.specs.Ordering.{nat_cmp}
use Rattle.std.proofs.lemmas.Bool.{eqb-true}
use Rattle.wm_law.specs.declared.job.Job.{Job}
use Rattle.wm_law.specs.Laws.{IsIn}
use Rattle.wm_law.proofs.Members.{found_among, All-in}
use Rattle.wm_ordered.specs.Ordered.{key_of, first_from}
use Rattle.wm_jobs.specs.Table.{Table, serial_of}
use Rattle.wm_jobs.specs.TableInside.{IsListed}
use Rattle.wm_jobs.proofs.Actives.{is_from, from-serial}
use Rattle.wm_jobs.proofs.One.{none-found, serial-found}
use Rattle.wm_jobs.proofs.table.JobTable.active_from.Goals as goal

pub returns-in_err-serial-clause-found : goal.returns-in_err-serial-clause-found
returns-in_err-serial-clause-found c =
    let jobs = c.self.inside.jobs.items in
    let none : option_map serial_of (find (is_from c.args.serial) jobs) ≡ None = sym (from-serial c.args.serial jobs) ∙ (ap (λ os. option_map key_of (first_from nat_cmp c.args.serial os)) (sym c.self.invariant.kept.indexed.active_are) ∙ (sym c.first_from.ensures ∙ c.in_err-serial.was)) in
    rw (c.from_residual.ensures, ← c.self.view_is) (sym (none-found (find (is_from c.args.serial) jobs) none))

pub returns-clause-found : goal.returns-clause-found
returns-clause-found c =
    let jobs = c.self.inside.jobs.items in
    let first : option_map serial_of (find (is_from c.args.serial) jobs) ≡ Some c.in_ok-serial.serial = sym (from-serial c.args.serial jobs) ∙ (ap (λ os. option_map key_of (first_from nat_cmp c.args.serial os)) (sym c.self.invariant.kept.indexed.active_are) ∙ (sym c.first_from.ensures ∙ c.in_ok-serial.was)) in
    c.job.ensures.found ∙ rw (← c.self.view_is) (serial-found (is_from c.args.serial) c.in_ok-serial.serial jobs c.self.invariant.kept.listed.sorted first)

pub returns-clause-by_serial : goal.returns-clause-by_serial
returns-clause-by_serial c j e =
    let jobs = c.args.self.now.jobs in
    let serial = c.in_ok-serial.serial in
    let found : find (λ (k : Job). k.serial == serial) jobs ≡ Some j = sym c.job.ensures.found ∙ e in
    let same : j.serial ≡ serial = eqb-true j.serial serial (found_among (λ (k : Job). k.serial == serial) jobs j found).1 in
    subst (λ (n : ℕ). find (λ (k : Job). k.serial == n) jobs ≡ Some j) (sym same) found

pub returns-clause-fits : goal.returns-clause-fits
returns-clause-fits c j e =
    let t = c.self.inside in
    let found = found_among (λ (k : Job). k.serial == c.in_ok-serial.serial) c.args.self.now.jobs j (sym c.job.ensures.found ∙ e) in
    let there : IsIn j t.jobs.items = subst (λ (v : Table). IsIn j v.jobs) (sym c.self.view_is) found.0 in
    let below : j.serial < t.next_serial = (All-in (IsListed t.next_serial t.next_place) t.jobs.items j c.self.invariant.kept.listed.each there).serial in
    let next : c.next_serial.result ≡ t.next_serial = c.next_serial.ensures ∙ sym (ap (λ (v : Table). v.next_serial) c.self.view_is) in
    let range = c.next_serial.type_inv in
    omega (arith, below, next, range)

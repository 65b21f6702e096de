use Rattle.std.proofs.Common.{◌≡◌, ◌∙◌, ◌==◌, ap, sym, subst, Some, find, List, ℕ}
use Rattle.std.specs.Ordering.{nat_cmp}
use Rattle.wm_desc.specs.Place.{IsAt, IsGap}
use Rattle.wm_law.specs.declared.job.Job.{Job}
use Rattle.wm_law.specs.Laws.{IsIn}
use Rattle.wm_jobs.specs.Table.{Table, serial_of}
use Rattle.wm_jobs.specs.TableInside.{IsKept, table_of}
use Rattle.wm_jobs.specs.declared.table.JobTable.TheInside.{Inside}
use Rattle.wm_jobs.proofs.Splits.{found-at, found-none}
use Rattle.wm_jobs.proofs.One.{found-one}
use Rattle.wm_jobs.proofs.table.JobTable.job.Goals as goal

-- each job that has the serial is the one that is found
found : (t : Inside) (now : Table) (serial : ℕ) (j : Job) → IsKept t → table_of t ≡ now → IsIn j now.jobs → j.serial ≡ serial → find (λ (k : Job). k.serial == serial) t.jobs.items ≡ Some j
found t now serial j h view i e =
    let inside : IsIn j t.jobs.items = subst (λ (u : Table). IsIn j u.jobs) (sym view) i in
    subst (λ (n : ℕ). find (λ (k : Job). k.serial == n) t.jobs.items ≡ Some j) e (found-one t.jobs.items j h.listed.sorted inside)

pub returns-in-Ok-clause-found : goal.returns-in-Ok-clause-found
returns-in-Ok-clause-found c =
    let jobs = c.self.inside.jobs.items in
    let stands = subst (λ (js : List Job). IsAt serial_of nat_cmp c.args.serial js c.in-Ok.at) c.deref.ensures.value c.in-Ok.ensures in
    rw (← c.self.view_is) (ap (λ (j : Job). Some j) c.index.ensures ∙ sym (found-at serial_of c.args.serial jobs c.in-Ok.at c.index.result.now stands))

pub returns-in-Ok-clause-one : goal.returns-in-Ok-clause-one
returns-in-Ok-clause-one c j i e =
    let jobs = c.self.inside.jobs.items in
    let stands = subst (λ (js : List Job). IsAt serial_of nat_cmp c.args.serial js c.in-Ok.at) c.deref.ensures.value c.in-Ok.ensures in
    ap (λ (j : Job). Some j) c.index.ensures
    ∙ (sym (found-at serial_of c.args.serial jobs c.in-Ok.at c.index.result.now stands) ∙ found c.self.inside c.args.self.now c.args.serial j c.self.invariant.kept c.self.view_is i e)

pub returns-in-Err-clause-found : goal.returns-in-Err-clause-found
returns-in-Err-clause-found c =
    let gap = subst (λ (js : List Job). IsGap serial_of nat_cmp c.args.serial js c.in-Err.field-0) c.deref.ensures.value c.in-Err.ensures in
    rw (← c.self.view_is) (sym (found-none serial_of c.args.serial c.self.inside.jobs.items c.in-Err.field-0 gap))

pub returns-in-Err-clause-one : goal.returns-in-Err-clause-one
returns-in-Err-clause-one c j i e =
    let gap = subst (λ (js : List Job). IsGap serial_of nat_cmp c.args.serial js c.in-Err.field-0) c.deref.ensures.value c.in-Err.ensures in
    sym (found-none serial_of c.args.serial c.self.inside.jobs.items c.in-Err.field-0 gap) ∙ found c.self.inside c.args.self.now c.args.serial j c.self.invariant.kept c.self.view_is i e

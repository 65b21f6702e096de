use Rattle.std.proofs.Common.{◌≡◌, ◌≤◌, length, take, ap, sym, ◌∙◌, subst, arith}
use Rattle.std.proofs.lemmas.List.{length-take}
use Rattle.wm_jobs.specs.Table.{Table}
use Rattle.wm_jobs.proofs.Undone.{length-undone}
use Rattle.wm_jobs.proofs.table.JobTable.marked_jobs.Goals as goal

pub returns-clause-count : goal.returns-clause-count
returns-clause-count c =
    let t = c.self.inside in
    let first : length (take t.mark.jobs t.jobs.items) ≡ t.mark.jobs = (let n = length-take t.mark.jobs t.jobs.items in let there = c.self.invariant.marked.there in omega arith) in
    sym (length-undone t.touched.items (take t.mark.jobs t.jobs.items) ∙ first) ∙ ap (λ (v : Table). length v.marked.jobs) c.self.view_is

pub returns-clause-there : goal.returns-clause-there
returns-clause-there c = subst (λ (v : Table). c.self.inside.mark.jobs ≤ length v.jobs) c.self.view_is c.self.invariant.marked.there

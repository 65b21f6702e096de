use Rattle.std.proofs.Common.{ℕ, ◌∙◌, ap}
use Rattle.wm_indexes.specs.Active as active
use Rattle.wm_jobs.proofs.Asked.{wishes-asked}
use Rattle.wm_jobs.proofs.table.JobTable.next_wish.Goals as goal

pub returns : goal.returns
returns c =
    let t = c.self.inside in
    rw (← c.self.view_is) (c.next_above.ensures ∙ (ap (λ (n : ℕ). active.next_above n t.active.items) c.clock.ensures ∙ (ap (active.next_above t.waiting.clock) c.self.invariant.kept.indexed.active_are ∙ wishes-asked t.waiting.clock t.jobs.items)))

use Rattle.std.proofs.Common.{◌≡◌, ◌∙◌, ap, true, is_some, None, List}
use Rattle.std.proofs.lemmas.List.Elements.{All-weaker}
use Rattle.wm_law.specs.declared.job.Job.{Job}
use Rattle.wm_law.specs.Counts.{is_waiting}
use Rattle.wm_ordered.specs.declared.waiter.Waiter.{Waiter}
use Rattle.wm_ordered.specs.Waiting.{next_due}
use Rattle.wm_jobs.specs.TableInside.{IsListed}
use Rattle.wm_jobs.proofs.JobParts.{due-waiters}
use Rattle.wm_jobs.proofs.table.JobTable.next_due.Goals as goal

pub returns : goal.returns
returns c =
    let t = c.self.inside in
    let queues = All-weaker (IsListed t.next_serial t.next_place) (λ (j : Job). is_waiting j.phase ≡ true → is_some j.jobq ≡ true) (λ j h. h.queue) t.jobs.items c.self.invariant.kept.listed.each in
    rw (← c.self.view_is) (c.next_due.ensures ∙ (ap (λ (ws : List Waiter). next_due t.waiting.clock ws) c.self.invariant.kept.indexed.waiters_are ∙ due-waiters t.waiting.clock t.jobs.items None queues))

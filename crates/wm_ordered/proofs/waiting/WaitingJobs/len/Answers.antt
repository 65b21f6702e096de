use Rattle.std.proofs.Common.{subst}
use Rattle.std.specs.Ordering.{nat_cmp}
use Rattle.wm_desc.specs.Sorted.{IsSortedOnce}
use Rattle.wm_ordered.specs.Waiting.{Waiting, serial_of, HavePriorities}
use Rattle.wm_ordered.proofs.Rows.{sorted-waiters}
use Rattle.wm_ordered.proofs.waiting.WaitingJobs.len.Goals as goal

pub returns-clause-sorted : goal.returns-clause-sorted
returns-clause-sorted c =
    subst (λ (p : Waiting). IsSortedOnce serial_of nat_cmp p.items) c.self.view_is (sorted-waiters c.self.inside.all.items c.self.invariant.keyed nat_cmp c.len.ensures.sorted)

pub returns-clause-priorities : goal.returns-clause-priorities
returns-clause-priorities c = subst (λ (p : Waiting). HavePriorities p.items) c.self.view_is c.self.invariant.priorities

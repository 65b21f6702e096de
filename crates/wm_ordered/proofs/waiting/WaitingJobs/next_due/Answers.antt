use Rattle.std.proofs.Common.{◌≡◌, ℕ, Option, Some, None, sym, subst}
use Rattle.wm_ordered.specs.Keys.{waiters_of}
use Rattle.wm_ordered.specs.Waiting.{Waiting, next_due}
use Rattle.wm_ordered.proofs.IndexLemmas.{next-absent, next-here}
use Rattle.wm_ordered.proofs.waiting.WaitingJobs.next_due.Goals as goal

pub returns-in_default : goal.returns-in_default
returns-in_default c =
    subst (λ (p : Waiting). ◌≡◌ {A = Option ℕ} None (next_due p.clock p.items)) c.self.view_is
    (sym (next-absent c.self.inside.clock (waiters_of c.self.inside.all.items) c.self.inside.early.items c.self.invariant.early c.len.ensures.sorted (sym c.in_default.ensures)))

pub returns : goal.returns
returns c =
    subst (λ (p : Waiting). ◌≡◌ {A = Option ℕ} (Some c.in-Some.row.0.due) (next_due p.clock p.items)) c.self.view_is
    (sym (next-here c.self.inside.clock (waiters_of c.self.inside.all.items) c.self.inside.early.items c.self.invariant.early c.len.ensures.sorted c.in-Some.row (sym c.in-Some.ensures)))

use Rattle.std.proofs.Common.{◌≡◌, ℕ, subst}
use Rattle.wm_ordered.specs.Ordered.{Pairs}
use Rattle.wm_indexes.specs.declared.acting.Acting.{Acting}
use Rattle.wm_indexes.specs.Active.{next_above}
use Rattle.wm_indexes.proofs.active.ActiveJobs.next_above.Goals as goal

pub returns : goal.returns
returns c =
    subst (λ (v : Pairs ℕ Acting). c.least_above.result ≡ next_above c.args.clock v.items) c.self.view_is (c.least_above.ensures c.self.inside.jobs.items c.self.invariant.moments.index c.self.invariant.range)

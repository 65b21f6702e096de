use Rattle.std.proofs.Common.{◌≡◌, ◌==◌, ℕ, List, count_by, ◌∙◌, ap, subst}
use Rattle.wm_ordered.specs.Ordered.{Pairs}
use Rattle.wm_indexes.specs.declared.acting.Acting.{Acting}
use Rattle.wm_indexes.specs.Active.{kills}
use Rattle.wm_indexes.proofs.KillRows.{count-is, kills-are}
use Rattle.wm_indexes.proofs.active.ActiveJobs.kills.Goals as goal

pub returns : goal.returns
returns c =
    let are = kills-are c.self.inside.jobs.items c.self.inside.kills.items c.self.invariant.kills.index c.len.ensures.sorted c.len-2.ensures.sorted in
    subst (λ (v : Pairs ℕ Acting). c.count_of.result ≡ kills c.args.monitor v.items) c.self.view_is
    (c.count_of.ensures ∙ (ap (λ (l : List (ℕ × ℕ)). count_by (λ row. row.1 == c.args.monitor) l) are ∙ count-is c.args.monitor c.self.inside.jobs.items))

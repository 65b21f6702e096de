use Rattle.std.proofs.Common.{◌≡◌, ◌==◌, ℕ, List, option_map, find, ◌∙◌, ap, subst}
use Rattle.wm_ordered.specs.Ordered.{Pairs, key_of}
use Rattle.wm_indexes.specs.declared.acting.Acting.{Acting}
use Rattle.wm_indexes.specs.Active.{first_kill}
use Rattle.wm_indexes.proofs.KillRows.{first-is, kills-are}
use Rattle.wm_indexes.proofs.active.ActiveJobs.first_kill.Goals as goal

pub returns : goal.returns
returns c =
    let are = kills-are c.self.inside.jobs.items c.self.inside.kills.items c.self.invariant.kills.index c.len.ensures.sorted c.len-2.ensures.sorted in
    subst (λ (v : Pairs ℕ Acting). c.first_of.result ≡ first_kill c.args.monitor v.items) c.self.view_is
    (c.first_of.ensures ∙ (ap (λ (l : List (ℕ × ℕ)). option_map key_of (find (λ row. row.1 == c.args.monitor) l)) are ∙ first-is c.args.monitor c.self.inside.jobs.items))

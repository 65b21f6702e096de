use Rattle.std.proofs.Common.{ap, ◌∙◌}
use Rattle.wm_law.specs.declared.state.State.{State}
use Rattle.wm_law.specs.Counts.{count_by_route}
use Rattle.wm_pick.proofs.TalliedJobs.{tally_has_counts}
use Rattle.wm_pick.proofs.parts.Parts.count_by_route.Goals as goal

pub returns : goal.returns
returns c =
    let counts = tally_has_counts c.self.inside.jobs.now c.self.inside.tally.now c.self.invariant.counts in
    c.count.ensures ∙ counts.by_route c.args.sbs.now c.args.seq ∙ ap (λ (s : State). count_by_route c.args.sbs.now c.args.seq s.jobs) c.self.view_is

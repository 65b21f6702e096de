use Rattle.std.proofs.Common.{ap, ◌∙◌}
use Rattle.wm_law.specs.declared.state.State.{State}
use Rattle.wm_law.specs.Counts.{count_from_queue}
use Rattle.wm_pick.proofs.TalliedJobs.{tally_has_counts}
use Rattle.wm_pick.proofs.parts.Parts.count_from_queue.Goals as goal

pub returns : goal.returns
returns c =
    let counts = tally_has_counts c.self.inside.jobs.now c.self.inside.tally.now c.self.invariant.counts in
    c.count.ensures ∙ counts.from_queue c.args.sbs.now c.args.queue.now ∙ ap (λ (s : State). count_from_queue c.args.sbs.now c.args.queue.now s.jobs) c.self.view_is

-- proofs/parts/Parts/count_in_sbs/Answers.antt
use Rattle.std.proofs.Common.{ap, ◌∙◌}
use Rattle.wm_law.specs.declared.state.State.{State}
use Rattle.wm_law.specs.Counts.{count_in_sbs}
use Rattle.wm_pick.proofs.TalliedJobs.{tally_has_counts}
use Rattle.wm_views.proofs.parts.Parts.count_in_sbs.Goals as goal

pub returns : goal.returns
returns c =
    let counts = tally_has_counts c.self.inside.jobs.now.jobs c.tally.result.now c.tally.ensures in
    c.count.ensures ∙ counts.in_sbs c.args.sbs.now ∙ ap (λ (s : State). count_in_sbs c.args.sbs.now s.jobs) c.self.view_is

-- proofs/sorting/sorted/Answers.antt
use Rattle.std.proofs.Common.{◌∙◌, ap, rules}
use Rattle.std.proofs.lemmas.List.Sorted.{answers_always}
use Rattle.wm_views.specs.Sorted.{sorted}
use Rattle.wm_views.proofs.Stable.{sorted_is}
use Rattle.wm_views.proofs.sorting.sorted.Goals as goal

pub returns : goal.returns
returns g c =
    let ranks = g.met.T.Ordered.ranks in
    let by = answers_always _ _ _ (λ f a r f' k. search rules) in
    let done = c.in_ok-sort_by.ensures in
    sorted_is g.T.Ordered.before ranks _ _ (done.sorted g.T.Ordered.before ranks by) (done.stable g.T.Ordered.before ranks by)
    ∙ ap (sorted g.T.Ordered.before) c.in_ok-list.ensures

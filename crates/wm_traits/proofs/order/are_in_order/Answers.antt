use Rattle.std.proofs.Common.{rules}
use Rattle.std.proofs.lemmas.List.Sorted.{answers_always}
use Rattle.wm_traits.specs.Rows.{is_before}
use Rattle.wm_traits.proofs.Sorted.{adjacent}
use Rattle.wm_traits.proofs.order.are_in_order.Goals as goal

pub returns : goal.returns
returns c =
    let by_pairs = c.is_sorted_by.ensures.cases is_before (answers_always _ _ _ (λ f a r f' called. search rules)) in
    adjacent c.args.rows.now c.is_sorted_by.result by_pairs

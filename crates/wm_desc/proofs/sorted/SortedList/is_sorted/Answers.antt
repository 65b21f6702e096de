use Rattle.std.proofs.Common.{rules}
use Rattle.std.specs.Ordering.{is_lt}
use Rattle.std.proofs.lemmas.List.Sorted.{answers_always}
use Rattle.wm_desc.proofs.SortedLists.{sorted-adjacent}
use Rattle.wm_desc.proofs.sorted.SortedList.is_sorted.Goals as goal

pub returns : goal.returns
returns g c =
    let key = g.E.Keyed.key in
    let cmp = g.E.By.Ord.cmp in
    let by_pairs = c.is_sorted_by.ensures.cases (λ x y. is_lt (cmp (key x) (key y))) (answers_always _ _ _ (λ f a r f' called. search rules)) in
    sorted-adjacent key cmp g.met.E.By.Ord.total c.args.items.now c.is_sorted_by.result by_pairs

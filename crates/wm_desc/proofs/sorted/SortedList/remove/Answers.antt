use Rattle.std.proofs.Common.{sym, ap, ◌∙◌, Some}
use Rattle.wm_desc.proofs.SortedLists.{with_key-at, with_key-gap, removed-at, removed-gap}
use Rattle.wm_desc.proofs.sorted.SortedList.remove.Goals as goal

pub returns-in-Ok-clause-element : goal.returns-in-Ok-clause-element
returns-in-Ok-clause-element g c =
    let found = with_key-at g.E.Keyed.key g.E.By.Ord.cmp g.met.E.By.Ord.total _ _ _ g.E.By.PartialEq.eq g.met.E.By.Ord.matches_eq c.remove.result c.in-Ok.ensures in
    ap Some c.remove.ensures.value ∙ rw c.self.view_is (sym found)

pub returns-in-Ok-clause-others : goal.returns-in-Ok-clause-others
returns-in-Ok-clause-others g c =
    let left = removed-at g.E.Keyed.key g.E.By.Ord.cmp g.met.E.By.Ord.total _ _ _ g.E.By.PartialEq.eq g.met.E.By.Ord.matches_eq c.in-Ok.ensures in
    c.remove.ensures.items ∙ rw c.self.view_is (sym left)

pub returns-in-Err-clause-element : goal.returns-in-Err-clause-element
returns-in-Err-clause-element g c = sym (with_key-gap g.E.Keyed.key g.E.By.Ord.cmp g.met.E.By.Ord.total _ _ _ g.E.By.PartialEq.eq g.met.E.By.Ord.matches_eq c.in-Err.ensures)

pub returns-in-Err-clause-others : goal.returns-in-Err-clause-others
returns-in-Err-clause-others g c = sym (removed-gap g.E.Keyed.key g.E.By.Ord.cmp g.met.E.By.Ord.total _ _ _ g.E.By.PartialEq.eq g.met.E.By.Ord.matches_eq c.in-Err.ensures)

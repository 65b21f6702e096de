use Rattle.std.proofs.Common.{sym, ap, ◌∙◌, Some}
use Rattle.wm_desc.proofs.SortedLists.{with_key-at, with_key-gap}
use Rattle.wm_desc.proofs.sorted.SortedList.get.Goals as goal

pub returns-in-Ok : goal.returns-in-Ok
returns-in-Ok g c =
    let found = with_key-at g.E.Keyed.key g.E.By.Ord.cmp g.met.E.By.Ord.total _ _ _ g.E.By.PartialEq.eq g.met.E.By.Ord.matches_eq c.index.result.now c.in-Ok.ensures in
    ap Some c.index.ensures ∙ rw c.self.view_is (sym found)

pub returns-in-Err : goal.returns-in-Err
returns-in-Err g c = sym (with_key-gap g.E.Keyed.key g.E.By.Ord.cmp g.met.E.By.Ord.total _ _ _ g.E.By.PartialEq.eq g.met.E.By.Ord.matches_eq c.in-Err.ensures)

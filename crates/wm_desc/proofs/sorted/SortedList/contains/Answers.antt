use Rattle.std.proofs.Common.{sym, ◌∙◌}
use Rattle.wm_desc.proofs.SortedLists.{has_key-searched}
use Rattle.wm_desc.proofs.sorted.SortedList.contains.Goals as goal

pub returns : goal.returns
returns g c = c.is_ok.ensures.value ∙ sym (has_key-searched g.E.Keyed.key g.E.By.Ord.cmp g.met.E.By.Ord.total _ _ g.E.By.PartialEq.eq g.met.E.By.Ord.matches_eq _ c.search.ensures)

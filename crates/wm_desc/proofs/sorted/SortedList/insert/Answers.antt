use Rattle.std.proofs.Common.{sym, ◌∙◌, subst, Ok}
use Rattle.wm_desc.specs.Place.{IsAt, IsGap}
use Rattle.wm_desc.proofs.SortedLists.{added-gap, has_key-searched}
use Rattle.wm_desc.proofs.sorted.SortedList.insert.Goals as goal

-- the search didn't find the key, since no element has it
pub unreachable-requires : goal.unreachable-requires
unreachable-requires g c =
    let found = subst (λ k. IsAt g.E.Keyed.key g.E.By.Ord.cmp k c.args.self.now c.in_default.field-0) c.key.ensures c.in_default.ensures in
    let there = has_key-searched g.E.Keyed.key g.E.By.Ord.cmp g.met.E.By.Ord.total _ _ g.E.By.PartialEq.eq g.met.E.By.Ord.matches_eq (Ok c.in_default.field-0) found in
    cc (there, c.requires.new)

pub returns-clause-ok : goal.returns-clause-ok
returns-clause-ok g c =
    let gap = subst (λ k. IsGap g.E.Keyed.key g.E.By.Ord.cmp k c.args.self.now c.in-Err.at) c.key.ensures c.in-Err.ensures in
    let new = added-gap g.E.Keyed.key g.E.By.Ord.cmp g.met.E.By.Ord.total c.args.element c.args.self.now c.in-Err.at gap in
    c.in_ok-insert.ensures.items ∙ rw c.self.view_is (sym new)

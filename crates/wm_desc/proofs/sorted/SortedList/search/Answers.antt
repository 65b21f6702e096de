use Rattle.std.proofs.Common.{rules}
use Rattle.std.proofs.lemmas.Fn.{always_returns_same}
use Rattle.wm_desc.proofs.SortedLists.{searched}
use Rattle.wm_desc.proofs.sorted.SortedList.search.Goals as goal

-- the closure compares an element's key with the one that is sought
pub returns : goal.returns
returns g c =
    let key = g.E.Keyed.key in
    let cmp = g.E.By.Ord.cmp in
    let facts = c.binary_search_by.ensures in
    let by_key = facts.position (λ x. cmp (key x) c.args.key.now) (always_returns_same _ _ _ (λ a r f' called. (search rules, search rules))) in
    rw (← c.self.view_is, ← c.deref.ensures.value) (searched key cmp g.met.E.By.Ord.total c.deref.result.now c.args.key.now _ (rw c.deref.ensures.value c.self.invariant) facts.bound by_key)

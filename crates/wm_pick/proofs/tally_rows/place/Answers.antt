use Rattle.std.proofs.Common.{rules}
use Rattle.std.proofs.lemmas.Fn.{always_returns_same}
use Rattle.wm_desc.proofs.SortedLists.{searched}
use Rattle.wm_pick.specs.Rows.{key_of}
use Rattle.wm_pick.proofs.tally_rows.place.Goals as goal

-- the closure compares a row's key with the one that is sought
pub returns : goal.returns
returns g c =
    let facts = c.binary_search_by.ensures in
    let by_key = facts.position (λ row. g.K.Ord.cmp (key_of row) c.args.key.now) (always_returns_same _ _ _ (λ a r f' called. (search rules, search rules))) in
    searched key_of g.K.Ord.cmp g.met.K.Ord.total c.args.rows.now c.args.key.now _ c.requires facts.bound by_key

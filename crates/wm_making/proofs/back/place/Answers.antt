use Rattle.std.proofs.Common.{rules}
use Rattle.std.proofs.lemmas.Fn.{always_returns_same}
use Rattle.wm_desc.proofs.SortedLists.{searched}
use Rattle.wm_desc.proofs.Tables.{qname_total}
use Rattle.wm_desc.specs.Table.{name_of, qname_cmp}
use Rattle.wm_making.proofs.PutBack.{placed}
use Rattle.wm_making.proofs.back.place.Goals as goal

-- the closure compares an object's name with the one that is sought
pub returns : goal.returns
returns c =
    let facts = c.binary_search_by.ensures in
    let by_name = facts.position (λ x. qname_cmp (name_of x) c.args.name.now) (always_returns_same _ _ _ (λ a r f' called. (search rules, search rules))) in
    placed c.args.name.now c.args.objects.now _ (searched name_of qname_cmp qname_total c.args.objects.now c.args.name.now _ c.requires facts.bound by_name)

use Rattle.std.proofs.Common.{rules}
use Rattle.std.proofs.lemmas.Cmp.{nat_list_cmp_total}
use Rattle.std.proofs.lemmas.Fn.{always_returns_same}
use Rattle.std.specs.Cmp.Lexicographic.{slice_cmp}
use Rattle.std.specs.Ordering.{nat_cmp}
use Rattle.wm_desc.proofs.SortedLists.{searched}
use Rattle.wm_traits.specs.Rows.{place_of}
use Rattle.wm_restart.proofs.Lookup.{sorted_rows}
use Rattle.wm_restart.proofs.found.search.Goals as goal

-- the closure compares a row's place with the one that is sought
pub returns : goal.returns
returns c =
    let facts = c.binary_search_by.ensures in
    let by_place = facts.position (λ r. slice_cmp nat_cmp (place_of r) (place_of c.args.row.now)) (always_returns_same _ _ _ (λ a r f' called. (search rules, search rules))) in
    searched place_of (slice_cmp nat_cmp) nat_list_cmp_total c.args.found.now (place_of c.args.row.now) _ (sorted_rows c.args.found.now c.requires) facts.bound by_place

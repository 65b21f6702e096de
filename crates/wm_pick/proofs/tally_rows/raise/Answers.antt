use Rattle.std.proofs.Common.{◌+◌, subst, arith}
use Rattle.std.proofs.lemmas.Grind.{elements}
use Rattle.wm_desc.specs.Place.{IsAt, IsGap}
use Rattle.wm_desc.proofs.SortedLists.{sorted-insert}
use Rattle.wm_pick.specs.Rows.{key_of}
use Rattle.wm_pick.proofs.TallyRows.{counted-insert, counted-set, raised, read-number_at}
use Rattle.wm_pick.proofs.tally_rows.raise.Goals as goal

-- the number that stands in the row is the key's
pub overflow_add-pair : goal.overflow_add-pair
overflow_add-pair g c =
    let found = subst (λ rows. IsAt key_of g.K.Ord.cmp c.args.key.now rows c.in-Ok.at) c.as_slice.ensures.value c.in-Ok.ensures in
    let read = read-number_at g.K.PartialEq.eq g.K.Ord.cmp g.met.K.Ord.total g.met.K.Ord.matches_eq c.args.key.now c.args.rows.now.items c.in-Ok.at c.index_mut-pair.result.now found c.index_mut-pair.ensures.value in
    omega (arith, read, c.requires.fits)

pub returns-in-Ok-clause-numbers : goal.returns-in-Ok-clause-numbers
returns-in-Ok-clause-numbers g c = λ k.
    let found = subst (λ rows. IsAt key_of g.K.Ord.cmp c.args.key.now rows c.in-Ok.at) c.as_slice.ensures.value c.in-Ok.ensures in
    raised g.K.PartialEq.eq g.K.Ord.cmp g.met.K.Ord.total g.met.K.Ord.matches_eq c.args.key.now k c.args.rows.now.items c.in-Ok.at c.index_mut-pair.result.now found c.index_mut-pair.ensures.value

pub returns-in-Err-clause-sorted : goal.returns-in-Err-clause-sorted
returns-in-Err-clause-sorted g c =
    let gap = subst (λ rows. IsGap key_of g.K.Ord.cmp c.args.key.now rows c.in-Err.at) c.as_slice.ensures.value c.in-Err.ensures in
    rw c.put.ensures.items (sorted-insert key_of g.K.Ord.cmp g.met.K.Ord.total (c.args.key.now, 1) c.args.rows.now.items c.in-Err.at c.requires.sorted gap)

pub returns-in-Ok-clause-counted : goal.returns-in-Ok-clause-counted
returns-in-Ok-clause-counted g c =
    let found = subst (λ rows. IsAt key_of g.K.Ord.cmp c.args.key.now rows c.in-Ok.at) c.as_slice.ensures.value c.in-Ok.ensures in
    let pair = c.index_mut-pair.result.now in
    counted-set c.args.rows.now.items c.in-Ok.at c.requires.counted (pair.0, pair.1 + 1) found.in_range (omega arith)

pub returns-in-Err-clause-counted : goal.returns-in-Err-clause-counted
returns-in-Err-clause-counted g c =
    rw c.put.ensures.items (counted-insert c.args.rows.now.items c.in-Err.at c.requires.counted (c.args.key.now, 1) (omega arith))

pub returns-in-Ok-clause-sorted : goal.returns-in-Ok-clause-sorted
returns-in-Ok-clause-sorted g c = grind (arith, elements)

use Rattle.std.proofs.Common.{◌≡◌, subst, arith}
use Rattle.std.proofs.lemmas.Grind.{elements}
use Rattle.wm_desc.specs.Place.{IsAt}
use Rattle.wm_pick.specs.Rows.{key_of, number_at}
use Rattle.wm_pick.proofs.TallyRows.{counted-remove, read-number_at, number_at-gap, lowered, number_at-remove}
use Rattle.wm_pick.proofs.tally_rows.lower.Goals as goal

-- the key has a number, and so a row
pub unreachable-requires : goal.unreachable-requires
unreachable-requires g c =
    let none = number_at-gap g.K.PartialEq.eq g.K.Ord.cmp g.met.K.Ord.total g.met.K.Ord.matches_eq c.args.key.now c.as_slice.result.now _ c.in_default.ensures in
    let none_there = subst (λ rows. number_at g.K.PartialEq.eq c.args.key.now rows ≡ 0) c.as_slice.ensures.value none in
    absurd (omega (arith, none_there, c.requires.some))

-- the number that stands in the row is the key's
pub overflow_sub-pair : goal.overflow_sub-pair
overflow_sub-pair g c =
    let found = subst (λ rows. IsAt key_of g.K.Ord.cmp c.args.key.now rows c.in-Ok.at) c.as_slice.ensures.value c.in-Ok.ensures in
    let read = read-number_at g.K.PartialEq.eq g.K.Ord.cmp g.met.K.Ord.total g.met.K.Ord.matches_eq c.args.key.now c.args.rows.now.items c.in-Ok.at c.index_mut-pair.result.now found c.index_mut-pair.ensures.value in
    omega (arith, read, c.requires.some)

pub returns-then-index-eq1-clause-numbers : goal.returns-then-index-eq1-clause-numbers
returns-then-index-eq1-clause-numbers g c = λ k.
    let found = subst (λ rows. IsAt key_of g.K.Ord.cmp c.args.key.now rows c.in-Ok.at) c.as_slice.ensures.value c.in-Ok.ensures in
    let less = number_at-remove g.K.PartialEq.eq g.K.Ord.cmp g.met.K.Ord.total g.met.K.Ord.matches_eq c.args.key.now k c.args.rows.now.items c.in-Ok.at c.index.result.now found c.index.ensures c.if-index-eq1.true in
    rw c.remove.ensures.items less

pub returns-else-index-eq1-clause-numbers : goal.returns-else-index-eq1-clause-numbers
returns-else-index-eq1-clause-numbers g c = λ k.
    let pair = c.index_mut-pair.result.now in
    let found = subst (λ rows. IsAt key_of g.K.Ord.cmp c.args.key.now rows c.in-Ok.at) c.as_slice.ensures.value c.in-Ok.ensures in
    let read = read-number_at g.K.PartialEq.eq g.K.Ord.cmp g.met.K.Ord.total g.met.K.Ord.matches_eq c.args.key.now c.args.rows.now.items c.in-Ok.at pair found c.index_mut-pair.ensures.value in
    lowered g.K.PartialEq.eq g.K.Ord.cmp g.met.K.Ord.total g.met.K.Ord.matches_eq c.args.key.now k c.args.rows.now.items c.in-Ok.at pair found c.index_mut-pair.ensures.value (omega (arith, read, c.requires.some))

pub returns-then-index-eq1-clause-counted : goal.returns-then-index-eq1-clause-counted
returns-then-index-eq1-clause-counted g c =
    let found = subst (λ rows. IsAt key_of g.K.Ord.cmp c.args.key.now rows c.in-Ok.at) c.as_slice.ensures.value c.in-Ok.ensures in
    rw c.remove.ensures.items (counted-remove c.args.rows.now.items c.in-Ok.at c.requires.counted c.index.result.now found.in_range)

pub returns-then-index-eq1-clause-sorted : goal.returns-then-index-eq1-clause-sorted
returns-then-index-eq1-clause-sorted g c = grind (arith, elements)

pub returns-else-index-eq1-clause-sorted : goal.returns-else-index-eq1-clause-sorted
returns-else-index-eq1-clause-sorted g c = grind (arith, elements)

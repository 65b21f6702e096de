use Rattle.std.proofs.Common.{◌∙◌, arith}
use Rattle.wm_pick.proofs.TallyRows.{counted-next, counted-within, counted-all, one-itself}
use Rattle.wm_pick.proofs.tally_rows.raise_all.Goals as goal

-- the key is among those that are still to be added
pub raise-requires-clause-fits : goal.raise-requires-clause-fits
raise-requires-clause-fits g c =
    let key = c.key-item.result in
    let within = counted-within g.K.PartialEq.eq c.args.keys.now c.loop-key.key-index key (omega arith) c.key-item.is key in
    let one = one-itself g.K.PartialEq.eq g.K.Ord.cmp g.met.K.Ord.total g.met.K.Ord.matches_eq key in
    omega (arith, within, one, c.loop-key.invariant.numbers key, c.requires.fits key)

pub loop-key-preserved : goal.loop-key-preserved
loop-key-preserved g c = record {
  sorted = c.raise.ensures.sorted;
  counted = c.raise.ensures.counted;
  numbers = λ k.
      let next = counted-next g.K.PartialEq.eq c.args.keys.now c.loop-key.key-index c.key-item.result (omega arith) c.key-item.is k in
      omega (arith, next, c.raise.ensures.numbers k, c.loop-key.invariant.numbers k);
  len = omega arith;
  capacity = c.raise.ensures.capacity ∙ c.loop-key.invariant.capacity;
}

pub returns-clause-numbers : goal.returns-clause-numbers
returns-clause-numbers g c = λ k.
    let all = counted-all g.K.PartialEq.eq c.args.keys.now c.loop-key.key-index k (omega arith) in
    omega (arith, all, c.loop-key.invariant.numbers k)

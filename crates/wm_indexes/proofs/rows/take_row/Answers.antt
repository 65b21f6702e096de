use Rattle.std.proofs.Common.{arith}
use Rattle.wm_ordered.proofs.Keyed.{length-removed}
use Rattle.wm_indexes.proofs.rows.take_row.Goals as goal

pub returns-then-has_one-clause-capacity : goal.returns-then-has_one-clause-capacity
returns-then-has_one-clause-capacity g c =
    let less = length-removed g.met.K.Ord.total g.K.PartialEq.eq g.met.K.Ord.matches_eq c.args.key.now c.args.rows.now.items c.len.ensures.sorted in
    rw c.remove.ensures.items (rw c.remove.ensures.spare (rw c.remove.ensures.value (omega (arith, less))))

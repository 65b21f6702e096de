use Rattle.std.proofs.Common.{sym}
use Rattle.wm_pick.proofs.TallyRows.{read-number_at, number_at-gap}
use Rattle.wm_pick.proofs.tally_rows.number.Goals as goal

pub returns-in-Ok : goal.returns-in-Ok
returns-in-Ok g c =
    rw (← c.index-rows-at.is) (read-number_at g.K.PartialEq.eq g.K.Ord.cmp g.met.K.Ord.total g.met.K.Ord.matches_eq c.args.key.now c.args.rows.now c.in-Ok.at c.index-rows-at.result c.in-Ok.ensures c.index-rows-at.is)

pub returns-in-Err : goal.returns-in-Err
returns-in-Err g c = sym (number_at-gap g.K.PartialEq.eq g.K.Ord.cmp g.met.K.Ord.total g.met.K.Ord.matches_eq c.args.key.now c.args.rows.now _ c.in-Err.ensures)

use Rattle.std.proofs.Common.{sym}
use Rattle.wm_ordered.proofs.Turned.{first-taken, none-left}
use Rattle.wm_ordered.proofs.turning.take_all.Goals as goal

pub loop-key-smaller : goal.loop-key-smaller
loop-key-smaller g c =
    rw c.take_out.ensures.items (first-taken g.K.PartialEq.eq g.K.Ord.cmp g.met.K.Ord.total g.met.K.Ord.matches_eq c.loop-key.rows.items _ (sym c.in-Some.ensures))

pub returns-clause-items : goal.returns-clause-items
returns-clause-items g c = none-left c.loop-key.rows.items (sym c.in_default.ensures)

use Rattle.wm_indexes.proofs.EachRow.{NoneFrom}
use Rattle.wm_indexes.proofs.full_names.place_of.Given as goal

abbrev pub invariant-loop-at : goal.invariant-loop-at
invariant-loop-at l = NoneFrom l.row l.rows l.at

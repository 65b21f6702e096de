use Rattle.wm_turn.proofs.Laid.{turn_over, begins_turn}
use Rattle.wm_turn.proofs.turns.begin.Goals as goal

pub check-failed-requires-clause-turn : goal.check-failed-requires-clause-turn
check-failed-requires-clause-turn g c = let b = c.wait.ensures.turn in begins_turn c.wait.new.place.me c.draw-ticket.new.place.me _ _ _ b.0 b.1

pub read-count-requires-clause-turn : goal.read-count-requires-clause-turn
read-count-requires-clause-turn g c = let b = c.wait.ensures.turn in
    turn_over c.take_out-value.new.place.me c.check-failed.new.place.me _ c.take_out-value.ensures.left (turn_over c.check-failed.new.place.me c.wait.new.place.me _ c.check-failed.ensures.same (begins_turn c.wait.new.place.me c.draw-ticket.new.place.me _ _ _ b.0 b.1))

use Rattle.wm_floor.proofs.Attending.{attends_by, attends_then}
use Rattle.wm_serve.proofs.attendant.turn_once.Goals as goal

pub returns-in_err-wait-clause-part : goal.returns-in_err-wait-clause-part
returns-in_err-wait-clause-part g c = attends_then c.args.floor.now _ _ _ _ _ _ c.look_and_turn.ensures.part (attends_by c.args.floor.now 0 2 _ _ _ _ c.wait.ensures.part)

pub returns-clause-part : goal.returns-clause-part
returns-clause-part g c = attends_then c.args.floor.now _ _ _ _ _ _ c.look_and_turn.ensures.part (attends_by c.args.floor.now 0 2 _ _ _ _ c.wait.ensures.part)

use Rattle.wm_floor.proofs.Attending.{attends_none, attends_then}
use Rattle.wm_serve.proofs.attendant.attend.Goals as goal

pub turns-init : goal.turns-init
turns-init g c = record { next = tt; finite = tt; part = attends_none c.args.floor.now c.args.pass.now _ c.requires.own }

pub turns-preserved : goal.turns-preserved
turns-preserved g c = record {
  next = tt;
  finite = tt;
  part = attends_then c.args.floor.now _ _ _ _ _ _ c.turns.invariant.part c.turn_once.ensures.part;
}

pub returns-in-Ok-true-clause-part : goal.returns-in-Ok-true-clause-part
returns-in-Ok-true-clause-part g c = attends_then c.args.floor.now _ _ _ _ _ _ c.turns.invariant.part c.turn_once.ensures.part

pub returns-in-Err-clause-part : goal.returns-in-Err-clause-part
returns-in-Err-clause-part g c = attends_then c.args.floor.now _ _ _ _ _ _ c.turns.invariant.part c.turn_once.ensures.part

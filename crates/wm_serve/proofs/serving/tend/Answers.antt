use Rattle.std.proofs.Common.{refl, rules}
use Rattle.wm_floor.proofs.Attending.{attends_by, attends_then}
use Rattle.wm_serve.proofs.serving.tend.Goals as goal

pub returns-in_err-wait-clause-tends : goal.returns-in_err-wait-clause-tends
returns-in_err-wait-clause-tends g c =
    let f = c.args.floor.now in
    record {
      from = c.in-Some.pass;
      to = c.wait.new.pass;
      had = search rules;
      has = refl;
      part = attends_then f c.in-Some.pass c.look_and_turn.new.pass c.wait.new.pass _ _ _ c.look_and_turn.ensures.part (attends_by f 0 2 _ _ _ _ c.wait.ensures.part);
    }

pub returns-in_ok-wait-clause-tends : goal.returns-in_ok-wait-clause-tends
returns-in_ok-wait-clause-tends g c =
    let f = c.args.floor.now in
    record {
      from = c.in-Some.pass;
      to = c.wait.new.pass;
      had = search rules;
      has = refl;
      part = attends_then f c.in-Some.pass c.look_and_turn.new.pass c.wait.new.pass _ _ _ c.look_and_turn.ensures.part (attends_by f 0 2 _ _ _ _ c.wait.ensures.part);
    }

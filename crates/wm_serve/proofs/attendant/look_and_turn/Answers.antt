use Rattle.std.proofs.Common.{arith}
use Rattle.std.proofs.lemmas.Result.{err_from_is_err_and}
use Rattle.wm_floor.proofs.Attending.{attends_by, attends_looked, attends_then}
use Rattle.wm_floor.proofs.MonitorCauses.{caused}
use Rattle.wm_serve.proofs.attendant.look_and_turn.Goals as goal

pub returns-in_err-turned-clause-own : goal.returns-in_err-turned-clause-own
returns-in_err-turned-clause-own g c = c.turn.ensures.part.pass.own

pub returns-clause-own : goal.returns-clause-own
returns-clause-own g c = c.turn.ensures.part.pass.own

pub returns-in_err-turned-clause-part : goal.returns-in_err-turned-clause-part
returns-in_err-turned-clause-part g c =
    let f = c.args.floor.now in
    let e = c.waiting-waiting.ensures in
    attends_then f _ _ _ _ _ _ (attends_looked f c.args.pass.now c.waiting-waiting.new.pass _ c.requires.own e.own e.same e.looked) (attends_by f 256 258 _ _ _ _ c.turn.ensures.part)

pub returns-clause-part : goal.returns-clause-part
returns-clause-part g c =
    let f = c.args.floor.now in
    let e = c.waiting-waiting.ensures in
    attends_then f _ _ _ _ _ _ (attends_looked f c.args.pass.now c.waiting-waiting.new.pass _ c.requires.own e.own e.same e.looked) (attends_by f 256 258 _ _ _ _ c.turn.ensures.part)

pub returns-in_err-turned-clause-cause : goal.returns-in_err-turned-clause-cause
returns-in_err-turned-clause-cause g c =
    let e = err_from_is_err_and c.from_residual.result c.from_residual.ensures.1 in
    caused c.from_residual.result _ e.0 _ _ _ _ _ _ _ e.1 e.2 c.in_err-turned.ensures.cause (omega arith) c.waiting-waiting.ensures.looked.mark

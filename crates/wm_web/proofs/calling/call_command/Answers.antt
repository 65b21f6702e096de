use Rattle.std.proofs.Common.{Ok, subst}
use Rattle.wm_base.proofs.Lists.{on_err}
use Rattle.wm_law.specs.declared.call.Call.{Call}
use Rattle.wm_floor.specs.Floor.{IsCalled}
use Rattle.wm_web.proofs.Calls.{fails_told, taken_up, tells_down}
use Rattle.wm_web.proofs.calling.call_command.Goals as goal

pub returns-in_err-told-in-Ok-clause-err : goal.returns-in_err-told-in-Ok-clause-err
returns-in_err-told-in-Ok-clause-err g c =
    on_err _ (taken_up c.args.floor.now.opening c.args.user.now c.args.command c.in_ok-call.call c.now-now.result c.args.pass.now c.call.new.pass c.in-Ok.entered c.in_ok-call.ensures.call c.in-Ok.ensures.called c.in-Ok.ensures.cause)

pub returns-in-Err-clause-answered : goal.returns-in-Err-clause-answered
returns-in-Err-clause-answered g c =
    fails_told c.args.floor.now.opening c.args.user.now c.args.command c.in_ok-call.call c.now-now.result c.args.pass.now c.call.new.pass c.in-Err.fault c.failed_answer.result c.in_ok-call.ensures.call c.in-Err.ensures.called c.in-Err.ensures.cause c.failed_answer.ensures

pub returns-in_ok-told-in-Ok-clause-down : goal.returns-in_ok-told-in-Ok-clause-down
returns-in_ok-told-in-Ok-clause-down g c =
    let o = c.args.floor.now.opening in
    let p = c.args.pass.now in
    let q = c.call.new.pass in
    let a = c.in-Ok.entered in
    let told = c.in_ok-told-in-Ok.told in
    let called = subst (λ (x : Call). IsCalled o x c.now-now.result p q (Ok a)) c.in_ok-call.ensures.call c.in-Ok.ensures.called in
    tells_down o c.args.user.now c.args.command c.now-now.result p q a told.answer told.down called (c.in_ok-told-in-Ok.ensures c.args.command c.mention_of-mention.ensures)

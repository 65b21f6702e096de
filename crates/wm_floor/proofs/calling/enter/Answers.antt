use Rattle.wm_floor.proofs.MonitorCalls.{IsAsked, IsToldAs, call_cause, call_err, call_ok, call_part}
use Rattle.wm_floor.proofs.calling.enter.Goals as goal

pub returns-clause-part : goal.returns-clause-part
returns-clause-part g c =
    let p = c.args.pass.now in
    let q = c.call-was.new.pass in
    let e = c.call-was.ensures in
    let asked : IsAsked c.args.floor.now p q c.args.call c.args.now = record { before = c.requires.own; own = e.own; same = e.same; monitors = c.requires.monitors; called_for = c.requires.called_for; mark = e.cause.later } in
    call_part c.args.floor.now p q c.args.call c.args.now c.call-was.result asked e.called

pub returns-clause-ok : goal.returns-clause-ok
returns-clause-ok g c =
    let told : IsToldAs c.call-was.result c.told.result = record { ok = c.told.ensures.ok; err = c.told.ensures.err } in
    call_ok c.args.floor.now c.args.pass.now c.call-was.new.pass c.args.call c.args.now c.call-was.result c.told.result told c.call-was.ensures.called

pub returns-clause-err : goal.returns-clause-err
returns-clause-err g c =
    let told : IsToldAs c.call-was.result c.told.result = record { ok = c.told.ensures.ok; err = c.told.ensures.err } in
    call_err c.args.floor.now c.args.pass.now c.call-was.new.pass c.args.call c.args.now c.call-was.result c.told.result told c.call-was.ensures.called

pub returns-clause-cause : goal.returns-clause-cause
returns-clause-cause g c faults =
    let told : IsToldAs c.call-was.result c.told.result = record { ok = c.told.ensures.ok; err = c.told.ensures.err } in
    call_cause c.args.floor.now c.args.pass.now c.call-was.new.pass c.args.call c.args.now c.call-was.result c.told.result faults told (c.requires.limit c.args.floor.now.opening.limit) c.call-was.ensures.cause c.call-was.ensures.called

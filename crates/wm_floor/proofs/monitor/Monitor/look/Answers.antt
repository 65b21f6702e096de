use Rattle.std.proofs.Common.{Some, sym, refl, arith}
use Rattle.wm_floor.specs.Scene.{spawner_seen}
use Rattle.wm_floor.proofs.Parts.{quiet_part, reported_part, unreported_part}
use Rattle.wm_floor.proofs.monitor.Monitor.look.Goals as goal

pub returns-in_err-report-clause-part : goal.returns-in_err-report-clause-part
returns-in_err-report-clause-part g c =
    let s = g.P.Spawner in
    let see = spawner_seen s.asked s.told s.misses s.faults in
    let f = c.args.floor.now in
    let p = c.args.pass.now in
    let m = c.args.self.now in
    let v = see c.args.spawner.now in
    let w = see c.look.new.spawner in
    let e = c.in_err-report.ensures in
    unreported_part f 0 1 p m v w c.requires.own c.requires.clear.no_report e.asked e.told e.misses e.cause.later

pub returns-in_default-clause-part : goal.returns-in_default-clause-part
returns-in_default-clause-part g c =
    let s = g.P.Spawner in
    let see = spawner_seen s.asked s.told s.misses s.faults in
    let f = c.args.floor.now in
    let p = c.args.pass.now in
    let m = c.args.self.now in
    let v = see c.args.spawner.now in
    let w = see c.look.new.spawner in
    let e = c.in_ok-report.ensures in
    quiet_part f 0 1 p m v w c.in_ok-report.field-0 c.in_default.is c.requires.own c.requires.clear.no_report e.asked e.told e.misses e.cause.later

pub returns-clause-sent : goal.returns-clause-sent
returns-clause-sent g c ok =
    let within = (c.send_kept.ensures.part (spawner_seen g.P.Spawner.asked g.P.Spawner.told g.P.Spawner.misses g.P.Spawner.faults c.look.new.spawner)).within in
    let hands = within.hands_most in
    let most = within.others_most in
    let some = c.in_ok-send_kept.ensures.some in
    omega arith

pub returns-in_err-send_kept-clause-part : goal.returns-in_err-send_kept-clause-part
returns-in_err-send_kept-clause-part g c =
    let s = g.P.Spawner in
    let see = spawner_seen s.asked s.told s.misses s.faults in
    let f = c.args.floor.now in
    let p = c.args.pass.now in
    let m = c.args.self.now in
    let v = see c.args.spawner.now in
    let w = see c.look.new.spawner in
    let e = c.in_ok-report.ensures in
    reported_part f p c.send_kept.new.pass m (record m { kept = Some c.in-Some.report }) c.send_kept.new.self c.in_ok-report.field-0 v w c.requires.own c.requires.clear.no_report (sym c.in-Some.is) refl e.asked e.told e.misses e.cause.later (c.send_kept.ensures.part w)

pub returns-clause-part : goal.returns-clause-part
returns-clause-part g c =
    let s = g.P.Spawner in
    let see = spawner_seen s.asked s.told s.misses s.faults in
    let f = c.args.floor.now in
    let p = c.args.pass.now in
    let m = c.args.self.now in
    let v = see c.args.spawner.now in
    let w = see c.look.new.spawner in
    let e = c.in_ok-report.ensures in
    reported_part f p c.send_kept.new.pass m (record m { kept = Some c.in-Some.report }) c.send_kept.new.self c.in_ok-report.field-0 v w c.requires.own c.requires.clear.no_report (sym c.in-Some.is) refl e.asked e.told e.misses e.cause.later (c.send_kept.ensures.part w)

use Rattle.std.proofs.Common.{Ok, refl, ap, ◌∙◌, arith}
use Rattle.std.proofs.lemmas.Result.{err_from_is_err_and}
use Rattle.wm_law.specs.Pending.{pending}
use Rattle.wm_floor.specs.History.{reached}
use Rattle.wm_floor.specs.Ledger.{behind}
use Rattle.wm_floor.specs.Scene.{scene, spawner_seen}
use Rattle.wm_floor.proofs.Advances.{Advances-looked, Advances-most, Advances-then}
use Rattle.wm_floor.proofs.MonitorCauses.{caused, caused_wait}
use Rattle.wm_floor.proofs.Parts.{count_then, made_none, reported_part, unreported_part}
use Rattle.wm_floor.proofs.MonitorPasses.{GoesOn-looked}
use Rattle.wm_floor.proofs.Turns.{report_or_more, waited_now}
use Rattle.wm_floor.proofs.monitor.Monitor.wait.Goals as goal

pub returns-in_err-first-clause-part : goal.returns-in_err-first-clause-part
returns-in_err-first-clause-part g c =
    let s = g.P.Spawner in
    let see = spawner_seen s.asked s.told s.misses s.faults in
    let f = c.args.floor.now in
    let v = see c.args.spawner.now in
    let first = c.send_kept.ensures.part v in
    Advances-most f 0 1 0 2 _ _ _ _ first (omega arith) (omega arith)

pub returns-in_err-report-clause-part : goal.returns-in_err-report-clause-part
returns-in_err-report-clause-part g c =
    let s = g.P.Spawner in
    let see = spawner_seen s.asked s.told s.misses s.faults in
    let f = c.args.floor.now in
    let v = see c.args.spawner.now in
    let q = c.send_kept.new.pass in
    let m1 = c.send_kept.new.self in
    let first = c.send_kept.ensures.part v in
    let x = see c.wait.new.spawner in
    let e = c.in_err-report.ensures in
    let second = unreported_part f 0 1 q m1 v x first.pass.own c.in_ok-first.ensures.kept e.asked e.told e.misses e.cause.later in
    Advances-then f 0 1 0 1 _ _ _ _ _ _ first second

pub returns-in_err-second-clause-part : goal.returns-in_err-second-clause-part
returns-in_err-second-clause-part g c =
    let s = g.P.Spawner in
    let see = spawner_seen s.asked s.told s.misses s.faults in
    let f = c.args.floor.now in
    let v = see c.args.spawner.now in
    let q = c.send_kept.new.pass in
    let m1 = c.send_kept.new.self in
    let first = c.send_kept.ensures.part v in
    let x = see c.wait.new.spawner in
    let r = c.send_kept-2.new.pass in
    let n = c.send_kept-2.new.self in
    let e = c.in_ok-report.ensures in
    let k = record m1 { kept = c.in_ok-report.report } in
    let second = reported_part f q r m1 k n c.in_ok-report.report v x first.pass.own c.in_ok-first.ensures.kept refl refl e.asked e.told e.misses e.cause.later (c.send_kept-2.ensures.part x) in
    Advances-then f 0 1 0 1 _ _ _ _ _ _ first second

pub returns-clause-part : goal.returns-clause-part
returns-clause-part g c =
    let s = g.P.Spawner in
    let see = spawner_seen s.asked s.told s.misses s.faults in
    let f = c.args.floor.now in
    let v = see c.args.spawner.now in
    let q = c.send_kept.new.pass in
    let m1 = c.send_kept.new.self in
    let first = c.send_kept.ensures.part v in
    let x = see c.wait.new.spawner in
    let r = c.send_kept-2.new.pass in
    let n = c.send_kept-2.new.self in
    let e = c.in_ok-report.ensures in
    let k = record m1 { kept = c.in_ok-report.report } in
    let second = reported_part f q r m1 k n c.in_ok-report.report v x first.pass.own c.in_ok-first.ensures.kept refl refl e.asked e.told e.misses e.cause.later (c.send_kept-2.ensures.part x) in
    let whole = Advances-then f 0 1 0 1 _ _ _ _ _ _ first second in
    let t = c.pending-waiting.new.pass in
    let l = c.pending-waiting.ensures in
    let goes = GoesOn-looked f r t whole.pass.own l.own l.same l.looked in
    Advances-then f 0 2 0 0 _ _ _ _ _ _ whole (Advances-looked f 0 0 r t (scene n x) goes l.looked.mine)

pub returns-clause-report : goal.returns-clause-report
returns-clause-report g c until =
    let s = g.P.Spawner in
    let see = spawner_seen s.asked s.told s.misses s.faults in
    let f = c.args.floor.now in
    let p = c.args.pass.now in
    let v = see c.args.spawner.now in
    let q = c.send_kept.new.pass in
    let m1 = c.send_kept.new.self in
    let first = c.send_kept.ensures.part v in
    let x = see c.wait.new.spawner in
    let r = c.send_kept-2.new.pass in
    let n = c.send_kept-2.new.self in
    let e = c.in_ok-report.ensures in
    let k = record m1 { kept = c.in_ok-report.report } in
    let second = reported_part f q r m1 k n c.in_ok-report.report v x first.pass.own c.in_ok-first.ensures.kept refl refl e.asked e.told e.misses e.cause.later (c.send_kept-2.ensures.part x) in
    let whole = Advances-then f 0 1 0 1 _ _ _ _ _ _ first second in
    let t = c.pending-waiting.new.pass in
    let l = c.pending-waiting.ensures in
    let goes = GoesOn-looked f r t whole.pass.own l.own l.same l.looked in
    report_or_more f p q r t c.in_ok-report.report first.pass second.pass goes (λ none. c.wait.ensures.none (c.in_ok-report.was ∙ ap Ok none) until) c.in_ok-second.ensures.some

pub returns-clause-sent : goal.returns-clause-sent
returns-clause-sent g c =
    let s = g.P.Spawner in
    let see = spawner_seen s.asked s.told s.misses s.faults in
    let f = c.args.floor.now in
    let v = see c.args.spawner.now in
    let q = c.send_kept.new.pass in
    let m1 = c.send_kept.new.self in
    let first = c.send_kept.ensures.part v in
    let x = see c.wait.new.spawner in
    let r = c.send_kept-2.new.pass in
    let n = c.send_kept-2.new.self in
    let e = c.in_ok-report.ensures in
    let k = record m1 { kept = c.in_ok-report.report } in
    let second = reported_part f q r m1 k n c.in_ok-report.report v x first.pass.own c.in_ok-first.ensures.kept refl refl e.asked e.told e.misses e.cause.later (c.send_kept-2.ensures.part x) in
    let whole = Advances-then f 0 1 0 1 _ _ _ _ _ _ first second in
    let t = c.pending-waiting.new.pass in
    let l = c.pending-waiting.ensures in
    let goes = GoesOn-looked f r t whole.pass.own l.own l.same l.looked in
    let both = count_then f _ _ _ _ _ first.pass second.pass c.in_ok-first.ensures.sent c.in_ok-second.ensures.sent in
    let last = count_then f _ _ _ _ 0 whole.pass goes both (made_none f r t l.looked.mine) in
    let is = c.of.ensures.sent in
    omega arith

pub returns-clause-at : goal.returns-clause-at
returns-clause-at g c =
    let is = c.of.ensures.at in
    is ∙ c.pending-waiting.ensures.at

pub returns-clause-waited : goal.returns-clause-waited
returns-clause-waited g c =
    let s = g.P.Spawner in
    let see = spawner_seen s.asked s.told s.misses s.faults in
    let f = c.args.floor.now in
    let p = c.args.pass.now in
    let v = see c.args.spawner.now in
    let q = c.send_kept.new.pass in
    let m1 = c.send_kept.new.self in
    let first = c.send_kept.ensures.part v in
    let x = see c.wait.new.spawner in
    let r = c.send_kept-2.new.pass in
    let n = c.send_kept-2.new.self in
    let e = c.in_ok-report.ensures in
    let k = record m1 { kept = c.in_ok-report.report } in
    let second = reported_part f q r m1 k n c.in_ok-report.report v x first.pass.own c.in_ok-first.ensures.kept refl refl e.asked e.told e.misses e.cause.later (c.send_kept-2.ensures.part x) in
    let whole = Advances-then f 0 1 0 1 _ _ _ _ _ _ first second in
    let t = c.pending-waiting.new.pass in
    let l = c.pending-waiting.ensures in
    let goes = GoesOn-looked f r t whole.pass.own l.own l.same l.looked in
    let all = Advances-then f 0 2 0 0 _ _ _ _ _ _ whole (Advances-looked f 0 0 r t (scene n x) goes l.looked.mine) in
    let o = c.of.result in
    let waits = c.of.ensures.pending ∙ (l.pending ∙ ap (pending (reached (behind f.opening t.seen))) (c.number-monitor.ensures.value ∙ whole.pass.same.number)) in
    waited_now f p t o.at o.pending all.pass (c.of.ensures.at ∙ l.at) waits

pub send_kept-requires-2 : goal.send_kept-requires-2
send_kept-requires-2 g c =
    let s = g.P.Spawner in
    let see = spawner_seen s.asked s.told s.misses s.faults in
    let v = see c.args.spawner.now in
    let first = c.send_kept.ensures.part v in
    record { own = first.pass.own }

pub pending-waiting-requires : goal.pending-waiting-requires
pending-waiting-requires g c =
    let s = g.P.Spawner in
    let see = spawner_seen s.asked s.told s.misses s.faults in
    let f = c.args.floor.now in
    let v = see c.args.spawner.now in
    let q = c.send_kept.new.pass in
    let m1 = c.send_kept.new.self in
    let first = c.send_kept.ensures.part v in
    let x = see c.wait.new.spawner in
    let r = c.send_kept-2.new.pass in
    let n = c.send_kept-2.new.self in
    let e = c.in_ok-report.ensures in
    let k = record m1 { kept = c.in_ok-report.report } in
    let second = reported_part f q r m1 k n c.in_ok-report.report v x first.pass.own c.in_ok-first.ensures.kept refl refl e.asked e.told e.misses e.cause.later (c.send_kept-2.ensures.part x) in
    record { own = second.pass.own }

pub overflow_add-first : goal.overflow_add-first
overflow_add-first g c =
    let s = g.P.Spawner in
    let see = spawner_seen s.asked s.told s.misses s.faults in
    let f = c.args.floor.now in
    let v = see c.args.spawner.now in
    let q = c.send_kept.new.pass in
    let m1 = c.send_kept.new.self in
    let first = c.send_kept.ensures.part v in
    let x = see c.wait.new.spawner in
    let r = c.send_kept-2.new.pass in
    let n = c.send_kept-2.new.self in
    let e = c.in_ok-report.ensures in
    let k = record m1 { kept = c.in_ok-report.report } in
    let second = reported_part f q r m1 k n c.in_ok-report.report v x first.pass.own c.in_ok-first.ensures.kept refl refl e.asked e.told e.misses e.cause.later (c.send_kept-2.ensures.part x) in
    let a = first.within in
    let a1 = a.hands_most in
    let a2 = a.others_most in
    let b = second.within in
    let b1 = b.hands_most in
    let b2 = b.others_most in
    let n1 = c.in_ok-first.ensures.sent in
    let n2 = c.in_ok-second.ensures.sent in
    omega arith

pub returns-in_err-first-clause-cause : goal.returns-in_err-first-clause-cause
returns-in_err-first-clause-cause g c =
    let s = g.P.Spawner in
    let see = spawner_seen s.asked s.told s.misses s.faults in
    let v = see c.args.spawner.now in
    let e = err_from_is_err_and c.from_residual.result c.from_residual.ensures.1 in
    caused c.from_residual.result _ e.0 _ _ _ _ _ _ _ e.1 e.2 (c.in_err-first.ensures.cause v.faults) (omega arith) (omega arith)

pub returns-in_err-report-clause-cause : goal.returns-in_err-report-clause-cause
returns-in_err-report-clause-cause g c =
    let e = err_from_is_err_and c.from_residual-in_err-report.result c.from_residual-in_err-report.ensures.1 in
    caused_wait c.from_residual-in_err-report.result e.0 _ _ _ _ _ e.1 e.2 c.in_err-report.ensures.cause.failed

pub returns-in_err-second-clause-cause : goal.returns-in_err-second-clause-cause
returns-in_err-second-clause-cause g c =
    let s = g.P.Spawner in
    let see = spawner_seen s.asked s.told s.misses s.faults in
    let v = see c.args.spawner.now in
    let first = c.send_kept.ensures.part v in
    let x = see c.wait.new.spawner in
    let e = c.in_ok-report.ensures in
    let b = err_from_is_err_and c.from_residual-in_err-second.result c.from_residual-in_err-second.ensures.1 in
    caused c.from_residual-in_err-second.result _ b.0 _ _ _ _ _ _ _ b.1 b.2 (c.in_err-second.ensures.cause x.faults) e.cause.later first.pass.mark

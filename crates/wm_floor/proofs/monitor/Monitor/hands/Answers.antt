use Rattle.std.proofs.Common.{arith}
use Rattle.std.proofs.lemmas.Result.{err_from_is_err_and}
use Rattle.wm_floor.specs.Scene.{spawner_seen}
use Rattle.wm_floor.proofs.Advances.{Advances-most}
use Rattle.wm_floor.proofs.MonitorCauses.{caused}
use Rattle.wm_floor.proofs.Loops.{HandLoop-next, HandLoop-none, hands_part}
use Rattle.wm_floor.proofs.MonitorPasses.{GoesOn-looked}
use Rattle.wm_floor.proofs.monitor.Monitor.hands.Goals as goal

pub hands-init : goal.hands-init
hands-init g c =
    let s = g.P.Spawner in
    let see = spawner_seen s.asked s.told s.misses s.faults in
    let f = c.args.floor.now in
    let p = c.args.pass.now in
    let m = c.args.self.now in
    let v = see c.args.spawner.now in
    (HandLoop-none f p m v (s.reporting c.args.spawner.now) c.requires.own c.requires.clear, c.requires.waits)

pub waiting-waiting-requires : goal.waiting-waiting-requires
waiting-waiting-requires g c = record { own = c.hand.ensures.part.pass.own }

pub hands-preserved : goal.hands-preserved
hands-preserved g c =
    let s = g.P.Spawner in
    let see = spawner_seen s.asked s.told s.misses s.faults in
    let f = c.args.floor.now in
    let p = c.args.pass.now in
    let m = c.args.self.now in
    let v = see c.args.spawner.now in
    let i = c.hands.invariant.0 in
    let q = c.hands.pass in
    let k = c.hands.self in
    let x = see c.hands.spawner in
    let r = c.hand.new.pass in
    let n = c.hand.new.self in
    let w = see c.hand.new.spawner in
    let hand = c.hand.ensures.part in
    let t = c.waiting-waiting.new.pass in
    let e = c.waiting-waiting.ensures in
    let goes = GoesOn-looked f r t hand.pass.own e.own e.same e.looked in
    let more = HandLoop-next f p q r t m k n v x w _ _ _ c.hands.counter c.hands.sent _ i hand c.in_ok-sent.ensures.clear c.in_ok-sent.ensures.hand c.in_ok-sent.ensures.sent goes e.looked.mine in
    (more, e.waits)

pub returns-in_err-sent-clause-part : goal.returns-in_err-sent-clause-part
returns-in_err-sent-clause-part g c =
    let s = g.P.Spawner in
    let see = spawner_seen s.asked s.told s.misses s.faults in
    let f = c.args.floor.now in
    let p = c.args.pass.now in
    let m = c.args.self.now in
    let v = see c.args.spawner.now in
    let i = c.hands.invariant.0 in
    let q = c.hands.pass in
    let k = c.hands.self in
    let x = see c.hands.spawner in
    let t = c.hand.new.pass in
    let n = c.hand.new.self in
    let w = see c.hand.new.spawner in
    hands_part f p q t m k n v x w c.hands.counter (omega arith) i.part c.hand.ensures.part

pub returns-in_err-sent-clause-cause : goal.returns-in_err-sent-clause-cause
returns-in_err-sent-clause-cause g c =
    let i = c.hands.invariant.0 in
    let b = err_from_is_err_and c.from_residual.result c.from_residual.ensures.1 in
    caused c.from_residual.result _ b.0 _ _ _ _ _ _ _ b.1 b.2 c.in_err-sent.ensures.cause i.part.faults i.part.pass.mark

pub returns-then-waiting-eq0-clause-part : goal.returns-then-waiting-eq0-clause-part
returns-then-waiting-eq0-clause-part g c =
    Advances-most c.args.floor.now c.hands.counter 0 256 0 _ _ _ _ c.hands.invariant.0.part (omega arith) (omega arith)

pub returns-clause-part : goal.returns-clause-part
returns-clause-part g c =
    Advances-most c.args.floor.now c.hands.counter 0 256 0 _ _ _ _ c.hands.invariant.0.part (omega arith) (omega arith)

use Rattle.std.proofs.Common.{[], sym, subst, arith}
use Rattle.std.proofs.lemmas.Result.{err_from_is_err_and}
use Rattle.wm_floor.proofs.Askings.{AsksFirst-again, AsksFor-none}
use Rattle.wm_floor.specs.Floor.{Seen, Waits}
use Rattle.wm_floor.specs.Scene.{scene, spawner_seen}
use Rattle.wm_floor.proofs.Advances.{Advances-looked, Advances-then}
use Rattle.wm_floor.proofs.MonitorCauses.{caused}
use Rattle.wm_floor.proofs.MonitorPasses.{GoesOn-looked}
use Rattle.wm_floor.proofs.Parts.{count_then, kill_is_asked, kill_is_kept, made_none, some_then, tried_part}
use Rattle.wm_floor.proofs.monitor.Monitor.settle.Goals as goal

pub returns-in_err-reported-clause-part : goal.returns-in_err-reported-clause-part
returns-in_err-reported-clause-part g c =
    let s = g.P.Spawner in
    let see = spawner_seen s.asked s.told s.misses s.faults in
    c.send_kept.ensures.part (see c.args.spawner.now)

pub returns-in_err-retry-clause-part : goal.returns-in_err-retry-clause-part
returns-in_err-retry-clause-part g c =
    let s = g.P.Spawner in
    let see = spawner_seen s.asked s.told s.misses s.faults in
    let p = c.args.pass.now in
    let m = c.args.self.now in
    let v = see c.args.spawner.now in
    let q = c.send_kept.new.pass in
    let w = see c.retry.new.spawner in
    tried_part c.args.floor.now p q m c.send_kept.new.self c.retry.new.self v w (c.send_kept.ensures.part v) c.retry.ensures.asked c.retry.ensures.reported c.retry.ensures.faults

pub waiting_since-waiting-requires : goal.waiting_since-waiting-requires
waiting_since-waiting-requires g c =
    let s = g.P.Spawner in
    let see = spawner_seen s.asked s.told s.misses s.faults in
    let f = c.args.floor.now in
    let sent = c.send_kept.ensures.part (see c.args.spawner.now) in
    record { own = sent.pass.own; last = λ none. subst (λ (p : Seen _). Waits f p c.args.last) (sym (c.in_ok-reported.ensures.still none)) c.requires.waits }

pub returns-clause-part : goal.returns-clause-part
returns-clause-part g c =
    let s = g.P.Spawner in
    let see = spawner_seen s.asked s.told s.misses s.faults in
    let f = c.args.floor.now in
    let p = c.args.pass.now in
    let m = c.args.self.now in
    let v = see c.args.spawner.now in
    let q = c.send_kept.new.pass in
    let n = c.retry.new.self in
    let w = see c.retry.new.spawner in
    let r = c.waiting_since-waiting.new.pass in
    let e = c.waiting_since-waiting.ensures in
    let tried = tried_part f p q m c.send_kept.new.self n v w (c.send_kept.ensures.part v) c.retry.ensures.asked c.retry.ensures.reported c.retry.ensures.faults in
    let goes = GoesOn-looked f q r tried.pass.own e.own e.same e.looked in
    Advances-then f 0 1 0 0 p q r (scene m v) (scene n w) (scene n w) tried (Advances-looked f 0 0 q r (scene n w) goes e.looked.mine)

pub returns-clause-sent : goal.returns-clause-sent
returns-clause-sent g c =
    let s = g.P.Spawner in
    let see = spawner_seen s.asked s.told s.misses s.faults in
    let f = c.args.floor.now in
    let p = c.args.pass.now in
    let q = c.send_kept.new.pass in
    let r = c.waiting_since-waiting.new.pass in
    let e = c.waiting_since-waiting.ensures in
    let part = (c.send_kept.ensures.part (see c.args.spawner.now)).pass in
    let both = count_then f p q r _ 0 part (GoesOn-looked f q r part.own e.own e.same e.looked) c.in_ok-reported.ensures.sent (made_none f q r e.looked.mine) in
    omega arith

pub returns-clause-some : goal.returns-clause-some
returns-clause-some g c =
    let s = g.P.Spawner in
    let see = spawner_seen s.asked s.told s.misses s.faults in
    let f = c.args.floor.now in
    let p = c.args.pass.now in
    let q = c.send_kept.new.pass in
    let r = c.waiting_since-waiting.new.pass in
    let e = c.waiting_since-waiting.ensures in
    let part = (c.send_kept.ensures.part (see c.args.spawner.now)).pass in
    some_then f p q r c.args.self.now.kept part (GoesOn-looked f q r part.own e.own e.same e.looked) c.in_ok-reported.ensures.some

pub returns-in_err-reported-clause-kill : goal.returns-in_err-reported-clause-kill
returns-in_err-reported-clause-kill g c =
    kill_is_kept _ _ _ _ c.send_kept.ensures.kill

pub returns-in_err-retry-clause-kill : goal.returns-in_err-retry-clause-kill
returns-in_err-retry-clause-kill g c =
    let s = g.P.Spawner in
    let see = spawner_seen s.asked s.told s.misses s.faults in
    let m = c.args.self.now in
    let v = see c.args.spawner.now in
    let m1 = c.send_kept.new.self in
    let w = see c.retry.new.spawner in
    kill_is_asked m.failed_kill _ v.asked w.asked (AsksFirst-again m.failed_kill m1.failed_kill [] v.asked w.asked w.asked [] c.send_kept.ensures.kill c.retry.ensures.again (AsksFor-none [] w.asked))

pub returns-clause-kill : goal.returns-clause-kill
returns-clause-kill g c =
    let s = g.P.Spawner in
    let see = spawner_seen s.asked s.told s.misses s.faults in
    let m = c.args.self.now in
    let v = see c.args.spawner.now in
    let m1 = c.send_kept.new.self in
    let w = see c.retry.new.spawner in
    kill_is_asked m.failed_kill _ v.asked w.asked (AsksFirst-again m.failed_kill m1.failed_kill [] v.asked w.asked w.asked [] c.send_kept.ensures.kill c.retry.ensures.again (AsksFor-none [] w.asked))

pub returns-clause-again : goal.returns-clause-again
returns-clause-again g c =
    let s = g.P.Spawner in
    let see = spawner_seen s.asked s.told s.misses s.faults in
    let m = c.args.self.now in
    let v = see c.args.spawner.now in
    let m1 = c.send_kept.new.self in
    let w = see c.retry.new.spawner in
    AsksFirst-again m.failed_kill m1.failed_kill [] v.asked w.asked w.asked [] c.send_kept.ensures.kill c.retry.ensures.again (AsksFor-none [] w.asked)

pub returns-in_err-retry-clause-cause : goal.returns-in_err-retry-clause-cause
returns-in_err-retry-clause-cause g c =
    let s = g.P.Spawner in
    let see = spawner_seen s.asked s.told s.misses s.faults in
    let q = c.send_kept.new.pass in
    let sent = c.send_kept.ensures.part (see c.args.spawner.now) in
    let e = err_from_is_err_and c.from_residual-in_err-retry.result c.from_residual-in_err-retry.ensures.1 in
    caused c.from_residual-in_err-retry.result _ e.0 _ _ _ _ _ _ _ e.1 e.2 (c.in_err-retry.ensures.cause q.mark q.seen) (omega arith) sent.pass.mark

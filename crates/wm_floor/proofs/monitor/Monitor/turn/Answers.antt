use Rattle.std.proofs.Common.{ap, ◌∙◌, arith}
use Rattle.std.proofs.lemmas.Result.{err_from_is_err_and}
use Rattle.wm_law.specs.Pending.{pending}
use Rattle.wm_floor.specs.History.{reached}
use Rattle.wm_floor.specs.Ledger.{behind}
use Rattle.wm_floor.specs.Scene.{scene, spawner_seen}
use Rattle.wm_floor.proofs.Advances.{Advances-most, Advances-then}
use Rattle.wm_floor.proofs.MonitorCauses.{caused}
use Rattle.wm_floor.proofs.Parts.{AsksFirst-since, count_then, kill_is_asked}
use Rattle.wm_floor.proofs.MonitorPasses.{GoesOn-then}
use Rattle.wm_floor.proofs.Turns.{had_nothing, handed_all, waited_before}
use Rattle.wm_floor.proofs.monitor.Monitor.turn.Goals as goal

pub returns-in_err-settled-clause-part : goal.returns-in_err-settled-clause-part
returns-in_err-settled-clause-part g c =
    let f = c.args.floor.now in
    Advances-most f 0 1 256 258 _ _ _ _ c.settle.ensures.part (omega arith) (omega arith)

pub returns-in_err-ticked-clause-part : goal.returns-in_err-ticked-clause-part
returns-in_err-ticked-clause-part g c =
    let s = g.P.Spawner in
    let see = spawner_seen s.asked s.told s.misses s.faults in
    let f = c.args.floor.now in
    let m1 = c.settle.new.self in
    let v1 = see c.settle.new.spawner in
    let settled = c.settle.ensures.part in
    let ticked = Advances-then f 0 1 0 1 _ _ _ _ _ _ settled (c.tick.ensures.part (scene m1 v1)) in
    Advances-most f 0 2 256 258 _ _ _ _ ticked (omega arith) (omega arith)

pub returns-in_err-handed-clause-part : goal.returns-in_err-handed-clause-part
returns-in_err-handed-clause-part g c =
    let s = g.P.Spawner in
    let see = spawner_seen s.asked s.told s.misses s.faults in
    let f = c.args.floor.now in
    let m1 = c.settle.new.self in
    let v1 = see c.settle.new.spawner in
    let settled = c.settle.ensures.part in
    let ticked = Advances-then f 0 1 0 1 _ _ _ _ _ _ settled (c.tick.ensures.part (scene m1 v1)) in
    let handed = Advances-then f 0 2 256 0 _ _ _ _ _ _ ticked c.hands.ensures.part in
    Advances-most f 256 2 256 258 _ _ _ _ handed (omega arith) (omega arith)

pub returns-in_err-looked-clause-part : goal.returns-in_err-looked-clause-part
returns-in_err-looked-clause-part g c =
    let s = g.P.Spawner in
    let see = spawner_seen s.asked s.told s.misses s.faults in
    let f = c.args.floor.now in
    let m1 = c.settle.new.self in
    let v1 = see c.settle.new.spawner in
    let settled = c.settle.ensures.part in
    let ticked = Advances-then f 0 1 0 1 _ _ _ _ _ _ settled (c.tick.ensures.part (scene m1 v1)) in
    let handed = Advances-then f 0 2 256 0 _ _ _ _ _ _ ticked c.hands.ensures.part in
    Advances-then f 256 2 0 256 _ _ _ _ _ _ handed c.looks.ensures.part

pub returns-clause-part : goal.returns-clause-part
returns-clause-part g c =
    let s = g.P.Spawner in
    let see = spawner_seen s.asked s.told s.misses s.faults in
    let f = c.args.floor.now in
    let m1 = c.settle.new.self in
    let v1 = see c.settle.new.spawner in
    let settled = c.settle.ensures.part in
    let ticked = Advances-then f 0 1 0 1 _ _ _ _ _ _ settled (c.tick.ensures.part (scene m1 v1)) in
    let handed = Advances-then f 0 2 256 0 _ _ _ _ _ _ ticked c.hands.ensures.part in
    Advances-then f 256 2 0 256 _ _ _ _ _ _ handed c.looks.ensures.part

pub returns-clause-sent : goal.returns-clause-sent
returns-clause-sent g c =
    let s = g.P.Spawner in
    let see = spawner_seen s.asked s.told s.misses s.faults in
    let f = c.args.floor.now in
    let m1 = c.settle.new.self in
    let v1 = see c.settle.new.spawner in
    let settled = c.settle.ensures.part in
    let ticked = Advances-then f 0 1 0 1 _ _ _ _ _ _ settled (c.tick.ensures.part (scene m1 v1)) in
    let handed = Advances-then f 0 2 256 0 _ _ _ _ _ _ ticked c.hands.ensures.part in
    let a = settled.pass in
    let b = (c.tick.ensures.part (scene m1 v1)).pass in
    let first = count_then f _ _ _ _ _ a b c.in_ok-settled.ensures.sent c.in_ok-ticked.ensures.sent in
    let second = count_then f _ _ _ _ _ ticked.pass c.hands.ensures.part.pass first c.in_ok-handed.ensures.sent in
    count_then f _ _ _ _ _ handed.pass c.looks.ensures.part.pass second c.in_ok-looked.ensures.sent

pub returns-clause-waited : goal.returns-clause-waited
returns-clause-waited g c =
    let s = g.P.Spawner in
    let see = spawner_seen s.asked s.told s.misses s.faults in
    let f = c.args.floor.now in
    let m1 = c.settle.new.self in
    let v1 = see c.settle.new.spawner in
    let settled = c.settle.ensures.part in
    let ticked = Advances-then f 0 1 0 1 _ _ _ _ _ _ settled (c.tick.ensures.part (scene m1 v1)) in
    let u = c.hands.new.pass in
    let handed = Advances-then f 0 2 256 0 _ _ _ _ _ _ ticked c.hands.ensures.part in
    let o = c.in_ok-handed.handed in
    let waits = c.in_ok-handed.ensures.pending ∙ ap (pending (reached (behind f.opening u.seen))) ticked.pass.same.number in
    waited_before f _ _ _ o.at o.pending handed.pass c.looks.ensures.part.pass c.looks.ensures.part.within.hands_most c.in_ok-handed.ensures.at waits

pub returns-clause-handed : goal.returns-clause-handed
returns-clause-handed g c =
    let s = g.P.Spawner in
    let see = spawner_seen s.asked s.told s.misses s.faults in
    let f = c.args.floor.now in
    let m1 = c.settle.new.self in
    let v1 = see c.settle.new.spawner in
    let settled = c.settle.ensures.part in
    let ticked = Advances-then f 0 1 0 1 _ _ _ _ _ _ settled (c.tick.ensures.part (scene m1 v1)) in
    handed_all f _ _ _ _ _ ticked.pass c.hands.ensures.part.pass c.looks.ensures.part.pass ticked.within.hands_most c.looks.ensures.part.within.hands_most c.in_ok-handed.ensures.all

pub returns-clause-again : goal.returns-clause-again
returns-clause-again g c =
    let s = g.P.Spawner in
    let see = spawner_seen s.asked s.told s.misses s.faults in
    let f = c.args.floor.now in
    let m = c.args.self.now in
    let v = see c.args.spawner.now in
    let m1 = c.settle.new.self in
    let v1 = see c.settle.new.spawner in
    let v3 = see c.looks.new.spawner in
    let hands = c.hands.ensures.part in
    let early = Advances-then f 0 1 256 0 _ _ _ _ _ _ (c.tick.ensures.part (scene m1 v1)) hands in
    let rest = Advances-then f 256 1 0 256 _ _ _ _ _ _ early c.looks.ensures.part in
    AsksFirst-since m.failed_kill _ v.asked v1.asked v3.asked _ c.in_ok-settled.ensures.again rest.asked.asked

pub returns-in_err-ticked-clause-kill : goal.returns-in_err-ticked-clause-kill
returns-in_err-ticked-clause-kill g c = kill_is_asked _ _ _ _ c.in_ok-settled.ensures.again

pub returns-in_err-handed-clause-kill : goal.returns-in_err-handed-clause-kill
returns-in_err-handed-clause-kill g c =
    let s = g.P.Spawner in
    let see = spawner_seen s.asked s.told s.misses s.faults in
    let m = c.args.self.now in
    let v = see c.args.spawner.now in
    let v1 = see c.settle.new.spawner in
    let v2 = see c.hands.new.spawner in
    kill_is_asked m.failed_kill _ v.asked v2.asked (AsksFirst-since m.failed_kill _ v.asked v1.asked v2.asked _ c.in_ok-settled.ensures.again c.hands.ensures.part.asked.asked)

pub returns-in_err-looked-clause-kill : goal.returns-in_err-looked-clause-kill
returns-in_err-looked-clause-kill g c =
    let s = g.P.Spawner in
    let see = spawner_seen s.asked s.told s.misses s.faults in
    let f = c.args.floor.now in
    let m = c.args.self.now in
    let v = see c.args.spawner.now in
    let m1 = c.settle.new.self in
    let v1 = see c.settle.new.spawner in
    let v3 = see c.looks.new.spawner in
    let hands = c.hands.ensures.part in
    let early = Advances-then f 0 1 256 0 _ _ _ _ _ _ (c.tick.ensures.part (scene m1 v1)) hands in
    let rest = Advances-then f 256 1 0 256 _ _ _ _ _ _ early c.looks.ensures.part in
    kill_is_asked m.failed_kill _ v.asked v3.asked (AsksFirst-since m.failed_kill _ v.asked v1.asked v3.asked _ c.in_ok-settled.ensures.again rest.asked.asked)

pub returns-clause-kill : goal.returns-clause-kill
returns-clause-kill g c =
    let s = g.P.Spawner in
    let see = spawner_seen s.asked s.told s.misses s.faults in
    let f = c.args.floor.now in
    let m = c.args.self.now in
    let v = see c.args.spawner.now in
    let m1 = c.settle.new.self in
    let v1 = see c.settle.new.spawner in
    let v3 = see c.looks.new.spawner in
    let hands = c.hands.ensures.part in
    let early = Advances-then f 0 1 256 0 _ _ _ _ _ _ (c.tick.ensures.part (scene m1 v1)) hands in
    let rest = Advances-then f 256 1 0 256 _ _ _ _ _ _ early c.looks.ensures.part in
    kill_is_asked m.failed_kill _ v.asked v3.asked (AsksFirst-since m.failed_kill _ v.asked v1.asked v3.asked _ c.in_ok-settled.ensures.again rest.asked.asked)

pub returns-clause-idle : goal.returns-clause-idle
returns-clause-idle g c made no_kill =
    let s = g.P.Spawner in
    let f = c.args.floor.now in
    let p = c.args.pass.now in
    let m = c.args.self.now in
    let q = c.settle.new.pass in
    let settled = c.settle.ensures.part in
    let r = c.tick.new.pass in
    let t = c.looks.new.pass in
    let k = g.C.Clock in
    let w0 = c.in_ok-settled.ensures.sent in
    let w1 = c.in_ok-ticked.ensures.sent in
    let w2 = c.in_ok-handed.ensures.sent in
    let later = GoesOn-then f _ _ _ c.hands.ensures.part.pass c.looks.ensures.part.pass in
    let same = c.in_ok-handed.ensures.quiet (omega arith) ∙ ap s.reporting (c.settle.ensures.quiet no_kill) in
    had_nothing f p q r t m.kept (k.coming c.args.clock.now) (k.coming c.settle.new.clock) (s.reporting c.args.spawner.now) (s.reporting c.hands.new.spawner) settled.pass later c.in_ok-settled.ensures.some (omega arith) (λ none. ap k.coming (c.settle.ensures.unread none)) (c.in_ok-ticked.ensures.due (omega arith)) same (c.in_ok-looked.ensures.all (omega arith))

pub returns-in_err-settled-clause-cause : goal.returns-in_err-settled-clause-cause
returns-in_err-settled-clause-cause g c =
    let e = err_from_is_err_and c.from_residual.result c.from_residual.ensures.1 in
    caused c.from_residual.result _ e.0 _ _ _ _ _ _ _ e.1 e.2 c.in_err-settled.ensures.cause (omega arith) (omega arith)

pub returns-in_err-ticked-clause-cause : goal.returns-in_err-ticked-clause-cause
returns-in_err-ticked-clause-cause g c =
    let s = g.P.Spawner in
    let see = spawner_seen s.asked s.told s.misses s.faults in
    let v1 = see c.settle.new.spawner in
    let e = err_from_is_err_and c.from_residual-in_err-ticked.result c.from_residual-in_err-ticked.ensures.1 in
    caused c.from_residual-in_err-ticked.result _ e.0 _ _ _ _ _ _ _ e.1 e.2 (c.in_err-ticked.ensures.cause v1.faults) c.settle.ensures.part.faults c.settle.ensures.part.pass.mark

pub returns-in_err-handed-clause-cause : goal.returns-in_err-handed-clause-cause
returns-in_err-handed-clause-cause g c =
    let s = g.P.Spawner in
    let see = spawner_seen s.asked s.told s.misses s.faults in
    let f = c.args.floor.now in
    let m1 = c.settle.new.self in
    let v1 = see c.settle.new.spawner in
    let settled = c.settle.ensures.part in
    let ticked = Advances-then f 0 1 0 1 _ _ _ _ _ _ settled (c.tick.ensures.part (scene m1 v1)) in
    let e = err_from_is_err_and c.from_residual-in_err-handed.result c.from_residual-in_err-handed.ensures.1 in
    caused c.from_residual-in_err-handed.result _ e.0 _ _ _ _ _ _ _ e.1 e.2 c.in_err-handed.ensures.cause ticked.faults ticked.pass.mark

pub returns-in_err-looked-clause-cause : goal.returns-in_err-looked-clause-cause
returns-in_err-looked-clause-cause g c =
    let s = g.P.Spawner in
    let see = spawner_seen s.asked s.told s.misses s.faults in
    let f = c.args.floor.now in
    let m1 = c.settle.new.self in
    let v1 = see c.settle.new.spawner in
    let settled = c.settle.ensures.part in
    let ticked = Advances-then f 0 1 0 1 _ _ _ _ _ _ settled (c.tick.ensures.part (scene m1 v1)) in
    let handed = Advances-then f 0 2 256 0 _ _ _ _ _ _ ticked c.hands.ensures.part in
    let e = err_from_is_err_and c.from_residual-in_err-looked.result c.from_residual-in_err-looked.ensures.1 in
    caused c.from_residual-in_err-looked.result _ e.0 _ _ _ _ _ _ _ e.1 e.2 c.in_err-looked.ensures.cause handed.faults handed.pass.mark

pub hands-requires-clause-own : goal.hands-requires-clause-own
hands-requires-clause-own g c =
    let s = g.P.Spawner in
    let see = spawner_seen s.asked s.told s.misses s.faults in
    let m1 = c.settle.new.self in
    let v1 = see c.settle.new.spawner in
    (c.tick.ensures.part (scene m1 v1)).pass.own

pub overflow_add-result : goal.overflow_add-result
overflow_add-result g c =
    let s = g.P.Spawner in
    let see = spawner_seen s.asked s.told s.misses s.faults in
    let m1 = c.settle.new.self in
    let v1 = see c.settle.new.spawner in
    let a = c.settle.ensures.part.within in
    let a1 = a.hands_most in
    let a2 = a.others_most in
    let b = (c.tick.ensures.part (scene m1 v1)).within in
    let b1 = b.hands_most in
    let b2 = b.others_most in
    let n1 = c.in_ok-settled.ensures.sent in
    let n2 = c.in_ok-ticked.ensures.sent in
    omega arith

pub overflow_add-result-2 : goal.overflow_add-result-2
overflow_add-result-2 g c =
    let s = g.P.Spawner in
    let see = spawner_seen s.asked s.told s.misses s.faults in
    let m1 = c.settle.new.self in
    let v1 = see c.settle.new.spawner in
    let a = c.settle.ensures.part.within in
    let a1 = a.hands_most in
    let a2 = a.others_most in
    let b = (c.tick.ensures.part (scene m1 v1)).within in
    let b1 = b.hands_most in
    let b2 = b.others_most in
    let n1 = c.in_ok-settled.ensures.sent in
    let n2 = c.in_ok-ticked.ensures.sent in
    let d = c.hands.ensures.part.within in
    let d1 = d.hands_most in
    let d2 = d.others_most in
    let n3 = c.in_ok-handed.ensures.sent in
    omega arith

pub overflow_add-result-3 : goal.overflow_add-result-3
overflow_add-result-3 g c =
    let s = g.P.Spawner in
    let see = spawner_seen s.asked s.told s.misses s.faults in
    let m1 = c.settle.new.self in
    let v1 = see c.settle.new.spawner in
    let a = c.settle.ensures.part.within in
    let a1 = a.hands_most in
    let a2 = a.others_most in
    let b = (c.tick.ensures.part (scene m1 v1)).within in
    let b1 = b.hands_most in
    let b2 = b.others_most in
    let n1 = c.in_ok-settled.ensures.sent in
    let n2 = c.in_ok-ticked.ensures.sent in
    let d = c.hands.ensures.part.within in
    let d1 = d.hands_most in
    let d2 = d.others_most in
    let n3 = c.in_ok-handed.ensures.sent in
    let h = c.looks.ensures.part.within in
    let h1 = h.hands_most in
    let h2 = h.others_most in
    let n4 = c.in_ok-looked.ensures.sent in
    omega arith

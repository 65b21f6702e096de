use Rattle.wm_floor.specs.Scene.{scene, spawner_seen}
use Rattle.wm_floor.proofs.Advances.{Advances-looked}
use Rattle.wm_floor.proofs.Parts.{first_at, handed_one, handed_part, none_first_at}
use Rattle.wm_floor.proofs.monitor.Monitor.hand.Goals as goal

pub returns-in_err-answered-clause-part : goal.returns-in_err-answered-clause-part
returns-in_err-answered-clause-part g c =
    let s = g.P.Spawner in
    let see = spawner_seen s.asked s.told s.misses s.faults in
    Advances-looked c.args.floor.now 1 0 c.args.pass.now c.enter.new.pass (scene c.args.self.now (see c.args.spawner.now)) c.enter.ensures.part c.in_err-answered.ensures.err

pub returns-in_err-answered-clause-moment : goal.returns-in_err-answered-clause-moment
returns-in_err-answered-clause-moment g c = none_first_at c.args.floor.now c.args.pass.now c.enter.new.pass (g.C.Clock.coming c.args.clock.now) c.in_err-answered.ensures.err

pub returns-in_err-sent-clause-part : goal.returns-in_err-sent-clause-part
returns-in_err-sent-clause-part g c =
    let s = g.P.Spawner in
    let see = spawner_seen s.asked s.told s.misses s.faults in
    let b = scene c.args.self.now (see c.args.spawner.now) in
    let d = scene c.follow.new.self (see c.follow.new.spawner) in
    handed_part c.args.floor.now c.args.pass.now c.enter.new.pass c.follow.new.pass c.now-now.result _ b d c.enter.ensures.part c.in_ok-answered.ensures.ok c.follow.ensures.part

pub returns-in_err-sent-clause-moment : goal.returns-in_err-sent-clause-moment
returns-in_err-sent-clause-moment g c = first_at c.args.floor.now c.args.pass.now c.enter.new.pass c.follow.new.pass (g.C.Clock.coming c.args.clock.now) c.enter.ensures.part c.in_ok-answered.ensures.ok c.follow.ensures.part.pass c.now-now.ensures.told

pub returns-clause-part : goal.returns-clause-part
returns-clause-part g c =
    let s = g.P.Spawner in
    let see = spawner_seen s.asked s.told s.misses s.faults in
    let b = scene c.args.self.now (see c.args.spawner.now) in
    let d = scene c.follow.new.self (see c.follow.new.spawner) in
    handed_part c.args.floor.now c.args.pass.now c.enter.new.pass c.follow.new.pass c.now-now.result _ b d c.enter.ensures.part c.in_ok-answered.ensures.ok c.follow.ensures.part

pub returns-clause-moment : goal.returns-clause-moment
returns-clause-moment g c = first_at c.args.floor.now c.args.pass.now c.enter.new.pass c.follow.new.pass (g.C.Clock.coming c.args.clock.now) c.enter.ensures.part c.in_ok-answered.ensures.ok c.follow.ensures.part.pass c.now-now.ensures.told

pub returns-clause-hand : goal.returns-clause-hand
returns-clause-hand g c = handed_one c.args.floor.now c.args.pass.now c.enter.new.pass c.follow.new.pass c.now-now.result _ c.enter.ensures.part c.in_ok-answered.ensures.ok c.follow.ensures.part.pass

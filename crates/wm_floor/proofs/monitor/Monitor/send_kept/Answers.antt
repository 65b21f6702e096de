use Rattle.std.proofs.Common.{None, refl}
use Rattle.wm_floor.specs.Scene.{scene}
use Rattle.wm_floor.proofs.Advances.{Advances-looked, Advances-none}
use Rattle.wm_floor.proofs.Parts.{made_at, made_one, none_at, sent_part}
use Rattle.wm_floor.proofs.monitor.Monitor.send_kept.Goals as goal

pub returns-in_err-enter-clause-part : goal.returns-in_err-enter-clause-part
returns-in_err-enter-clause-part g c s =
    Advances-looked c.args.floor.now 0 1 c.args.pass.now c.enter.new.pass (scene c.args.self.now s) c.enter.ensures.part c.in_err-enter.ensures.err

pub returns-clause-part : goal.returns-clause-part
returns-clause-part g c s =
    let m = c.args.self.now in
    let n = record m { kept = None } in
    sent_part c.args.floor.now c.args.pass.now c.enter.new.pass m n c.in-Some.report c.call.result c.now-now.result _ s c.enter.ensures.part c.in_ok-enter.ensures.ok c.call.ensures.call c.in-Some.is refl refl

pub returns-clause-sent : goal.returns-clause-sent
returns-clause-sent g c = made_one c.args.floor.now c.args.pass.now c.enter.new.pass c.in_ok-enter.ensures.ok

pub returns-in_default-clause-part : goal.returns-in_default-clause-part
returns-in_default-clause-part g c s = Advances-none c.args.floor.now 0 1 c.args.pass.now (scene c.args.self.now s) c.requires.own

pub returns-in_err-enter-clause-moment : goal.returns-in_err-enter-clause-moment
returns-in_err-enter-clause-moment g c = none_at c.args.floor.now c.args.pass.now c.enter.new.pass (g.C.Clock.coming c.args.clock.now) c.in_err-enter.ensures.err

pub returns-clause-moment : goal.returns-clause-moment
returns-clause-moment g c = made_at c.args.floor.now c.args.pass.now c.enter.new.pass (g.C.Clock.coming c.args.clock.now) c.in_ok-enter.ensures.ok c.now-now.ensures.told

pub returns-in_default-clause-moment : goal.returns-in_default-clause-moment
returns-in_default-clause-moment g c = none_at c.args.floor.now c.args.pass.now c.args.pass.now (g.C.Clock.coming c.args.clock.now) refl

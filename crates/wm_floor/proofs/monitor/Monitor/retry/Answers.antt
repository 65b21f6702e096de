use Rattle.wm_base.specs.declared.job.Asked.TheVariants.{Kill}
use Rattle.wm_floor.specs.Scene.{spawner_seen}
use Rattle.wm_floor.proofs.Parts.{again_asked, kill_done, kill_kept, killed_reported}
use Rattle.wm_floor.proofs.monitor.Monitor.retry.Goals as goal

pub returns-in_err-kill-clause-asked : goal.returns-in_err-kill-clause-asked
returns-in_err-kill-clause-asked g c =
    let s = g.P.Spawner in
    let see = spawner_seen s.asked s.told s.misses s.faults in
    let n = c.kill.new.self in
    again_asked c.args.self.now n c.in-Some.serial (see c.args.spawner.now) (see c.kill.new.spawner) c.in-Some.is (kill_kept n c.in-Some.serial c.in_err-kill.ensures.failed) c.kill.ensures.asked

pub returns-in_err-kill-clause-reported : goal.returns-in_err-kill-clause-reported
returns-in_err-kill-clause-reported g c =
    let s = g.P.Spawner in
    let see = spawner_seen s.asked s.told s.misses s.faults in
    killed_reported c.args.self.now c.kill.new.self (see c.args.spawner.now) (see c.kill.new.spawner) c.kill.ensures.kept c.kill.ensures.told c.kill.ensures.misses

pub returns-clause-asked : goal.returns-clause-asked
returns-clause-asked g c =
    let s = g.P.Spawner in
    let see = spawner_seen s.asked s.told s.misses s.faults in
    let n = c.kill.new.self in
    again_asked c.args.self.now n c.in-Some.serial (see c.args.spawner.now) (see c.kill.new.spawner) c.in-Some.is (kill_done n (Kill c.in-Some.serial) c.in_ok-kill.ensures.done) c.kill.ensures.asked

pub returns-clause-reported : goal.returns-clause-reported
returns-clause-reported g c =
    let s = g.P.Spawner in
    let see = spawner_seen s.asked s.told s.misses s.faults in
    killed_reported c.args.self.now c.kill.new.self (see c.args.spawner.now) (see c.kill.new.spawner) c.kill.ensures.kept c.kill.ensures.told c.kill.ensures.misses

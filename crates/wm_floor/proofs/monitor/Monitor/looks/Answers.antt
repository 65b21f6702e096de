use Rattle.std.proofs.Common.{Ok, ap, ◌∙◌, arith, inr}
use Rattle.wm_floor.specs.Scene.{spawner_seen}
use Rattle.wm_floor.proofs.Loops.{LookLoop-more, LookLoop-none, looks_part}
use Rattle.wm_floor.proofs.monitor.Monitor.looks.Goals as goal

pub looks-init : goal.looks-init
looks-init g c =
    let s = g.P.Spawner in
    let see = spawner_seen s.asked s.told s.misses s.faults in
    let f = c.args.floor.now in
    let p = c.args.pass.now in
    let m = c.args.self.now in
    let v = see c.args.spawner.now in
    LookLoop-none f p m v (s.reporting c.args.spawner.now) c.requires.own c.requires.clear

pub looks-preserved : goal.looks-preserved
looks-preserved g c =
    let s = g.P.Spawner in
    let see = spawner_seen s.asked s.told s.misses s.faults in
    let f = c.args.floor.now in
    let p = c.args.pass.now in
    let m = c.args.self.now in
    let v = see c.args.spawner.now in
    let i = c.looks.invariant in
    let q = c.looks.pass in
    let k = c.looks.self in
    let x = see c.looks.spawner in
    let t = c.look.new.pass in
    let n = c.look.new.self in
    let w = see c.look.new.spawner in
    LookLoop-more f p q t m k n v x w _ _ _ c.looks.sent i c.look.ensures.part c.in_ok-look.ensures.clear (c.look.ensures.sent (c.in_ok-look.was ∙ ap Ok c.if-not-branch.false))

pub returns-in_err-look-clause-part : goal.returns-in_err-look-clause-part
returns-in_err-look-clause-part g c =
    let s = g.P.Spawner in
    let see = spawner_seen s.asked s.told s.misses s.faults in
    let f = c.args.floor.now in
    let p = c.args.pass.now in
    let m = c.args.self.now in
    let v = see c.args.spawner.now in
    let i = c.looks.invariant in
    let q = c.looks.pass in
    let k = c.looks.self in
    let x = see c.looks.spawner in
    let t = c.look.new.pass in
    let n = c.look.new.self in
    let w = see c.look.new.spawner in
    looks_part f p q t m k n v x w c.looks.sent (omega arith) i.part c.look.ensures.part

pub returns-then-not-branch-clause-part : goal.returns-then-not-branch-clause-part
returns-then-not-branch-clause-part g c =
    let s = g.P.Spawner in
    let see = spawner_seen s.asked s.told s.misses s.faults in
    let f = c.args.floor.now in
    let p = c.args.pass.now in
    let m = c.args.self.now in
    let v = see c.args.spawner.now in
    let i = c.looks.invariant in
    let q = c.looks.pass in
    let k = c.looks.self in
    let x = see c.looks.spawner in
    let t = c.look.new.pass in
    let n = c.look.new.self in
    let w = see c.look.new.spawner in
    looks_part f p q t m k n v x w c.looks.sent (omega arith) i.part c.look.ensures.part

pub returns-then-not-branch-clause-last : goal.returns-then-not-branch-clause-last
returns-then-not-branch-clause-last g c =
    let none = c.in_ok-look.was ∙ ap Ok c.if-not-branch.true in
    inr (c.looks.spawner, c.look.ensures.none none, c.look.ensures.none_told none)

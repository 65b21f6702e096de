use Rattle.wm_floor.specs.Floor.{Waits}
use Rattle.wm_floor.specs.Scene.{spawner_seen}
use Rattle.wm_floor.proofs.Loops.{HandLoop}
use Rattle.wm_floor.proofs.monitor.Monitor.hands.Given as goal

abbrev pub invariant-hands : goal.invariant-hands
invariant-hands g l =
    let s = g.P.Spawner in
    let see = spawner_seen s.asked s.told s.misses s.faults in
    HandLoop l.fn.floor l.fn.pass l.pass l.fn.self l.self (see l.fn.spawner) (see l.spawner) (s.reporting l.fn.spawner) (s.reporting l.spawner) l.counter l.sent × Waits l.fn.floor l.pass l.waiting

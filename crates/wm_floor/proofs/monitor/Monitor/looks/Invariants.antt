use Rattle.wm_floor.specs.Scene.{spawner_seen}
use Rattle.wm_floor.proofs.Loops.{LookLoop}
use Rattle.wm_floor.proofs.monitor.Monitor.looks.Given as goal

abbrev pub invariant-looks : goal.invariant-looks
invariant-looks g l =
    let s = g.P.Spawner in
    let see = spawner_seen s.asked s.told s.misses s.faults in
    LookLoop l.fn.floor l.fn.pass l.pass l.fn.self l.self (see l.fn.spawner) (see l.spawner) (s.reporting l.fn.spawner) (s.reporting l.spawner) l.sent

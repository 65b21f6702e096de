use Rattle.wm_run.specs.Serving.{RunServes}
use Rattle.wm_run.proofs.Turning.{TurnLoop}
use Rattle.wm_run.proofs.running.Run.drain.Given as goal

abbrev pub invariant-turns : goal.invariant-turns
invariant-turns g l =
    let s = g.P.Spawner in
    TurnLoop l.fn.self l.self (s.faults l.fn.spawner) (s.faults l.spawner) (RunServes s.asked s.told s.misses s.faults l.fn.self l.fn.spawner l.self l.spawner)

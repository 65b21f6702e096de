use Rattle.wm_run.specs.Down.{is_down}
use Rattle.wm_run.specs.Grown.{entries_between, session_of}
use Rattle.wm_run.specs.Halt.{KeepsNone}
use Rattle.wm_run.specs.Serving.{IsRunning, RunServes}
use Rattle.wm_run.specs.Taking.{TakesInput}
use Rattle.wm_run.proofs.InputLoops.{InputLoop, SoFar}
use Rattle.wm_run.proofs.running.Run.take_pieces.Given as goal

abbrev pub invariant-reads : goal.invariant-reads
invariant-reads g l =
    let s = g.P.Spawner in
    let o = g.O.Sink in
    let i = g.I.Source in
    InputLoop
    (i.faults l.fn.input) (i.faults l.input) (o.faults l.fn.out) (o.faults l.out) (s.faults l.fn.spawner) (s.faults l.spawner)
    l.total l.piece
    (is_down (entries_between (session_of l.fn.self) (session_of l.self)))
    (IsRunning l.self)
    (RunServes s.asked s.told s.misses s.faults l.fn.self l.fn.spawner l.self l.spawner)
    (TakesInput (i.left l.fn.input) (i.left l.input) (λ bytes. SoFar l.user l.joiner (session_of l.fn.self) (entries_between (session_of l.fn.self) (session_of l.self)) (o.written l.fn.out) (o.written l.out) l.faulty l.total bytes))
    (KeepsNone l.fn.self.monitor.kept l.self.monitor.kept)

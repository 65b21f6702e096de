use Rattle.std.proofs.Common.{◌-◌, drop, length}
use Rattle.wm_run.specs.Down.{is_down}
use Rattle.wm_run.specs.Grown.{entries_between, session_of}
use Rattle.wm_run.specs.Halt.{KeepsNone}
use Rattle.wm_run.specs.Serving.{IsRunning, RunServes}
use Rattle.wm_run.specs.Taking.{TakesPiece}
use Rattle.wm_run.proofs.InputLoops.{PieceLoop}
use Rattle.wm_run.proofs.running.Run.take_piece.Given as goal

abbrev pub invariant-lines : goal.invariant-lines
invariant-lines g l =
    let s = g.P.Spawner in
    let o = g.O.Sink in
    PieceLoop
    (o.faults l.fn.out) (o.faults l.out) (s.faults l.fn.spawner) (s.faults l.spawner)
    l.at l.piece
    (is_down (entries_between (session_of l.fn.self) (session_of l.self)))
    (IsRunning l.self)
    (RunServes s.asked s.told s.misses s.faults l.fn.self l.fn.spawner l.self l.spawner)
    (TakesPiece l.user l.fn.joiner l.piece l.joiner (drop l.at l.piece) (session_of l.fn.self) (entries_between (session_of l.fn.self) (session_of l.self)) (o.written l.fn.out) (o.written l.out) l.faulty)
    (KeepsNone l.fn.self.monitor.kept l.self.monitor.kept)

abbrev pub decreases-lines : goal.decreases-lines
decreases-lines g l = length l.piece - l.at

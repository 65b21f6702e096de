use Rattle.wm_serve.specs.Seats.{tellers}
use Rattle.wm_serve.proofs.Closers.{all_none}
use Rattle.wm_serve.proofs.Writing.{writes_err, writes_part}
use Rattle.wm_serve.proofs.serving.serve_announced.Goals as goal

pub returns-in_err-announce-clause-run : goal.returns-in_err-announce-clause-run
returns-in_err-announce-clause-run g c =
    let d = g.L.D.Desk in
    let p = g.P.Spawner in
    all_none (tellers d.hand d.had d.dries d.faults p.asked p.told p.misses p.faults) c.args.floor.now c.args.seats.now c.requires.sit

pub returns-in_err-last-clause-written : goal.returns-in_err-last-clause-written
returns-in_err-last-clause-written g c = writes_err c.from_residual-in_err-last.result _ _ c.from_residual-in_err-last.ensures.0 (writes_part c.announce.result _ _ c.announce.ensures.written)

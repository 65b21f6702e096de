use Rattle.wm_run.specs.Session.{end_call}
use Rattle.wm_serve.specs.Seats.{tellers}
use Rattle.wm_serve.proofs.Closers.{closer_runs, reads}
use Rattle.wm_serve.proofs.Floors.{if_err, of_finish, of_rounds}
use Rattle.wm_serve.proofs.Overs.{may_since, on_ok, over_by, quiet_since, where_ok}
use Rattle.wm_serve.proofs.Running.{all_then}
use Rattle.wm_serve.proofs.Writing.{writes_on}
use Rattle.wm_serve.proofs.serving.serve_begun.Goals as goal

pub closer_now-now-requires : goal.closer_now-now-requires
closer_now-now-requires g c =
    let d = g.L.D.Desk in
    let p = g.P.Spawner in
    let t = tellers d.hand d.had d.dries d.faults p.asked p.told p.misses p.faults in
    record { closer = closer_runs t c.args.floor.now c.args.workers c.args.seats.now c.serve_announced-served.new.seats c.serve_announced-served.ensures.run c.requires.closer }

pub finish-requires-clause-sit : goal.finish-requires-clause-sit
finish-requires-clause-sit g c =
    let d = g.L.D.Desk in
    let p = g.P.Spawner in
    let t = tellers d.hand d.had d.dries d.faults p.asked p.told p.misses p.faults in
    let f = c.args.floor.now in
    let w = c.args.workers in
    let served = c.serve_announced-served in
    let still = closer_runs t f w c.args.seats.now served.new.seats served.ensures.run c.requires.closer in
    (reads t f w served.new.seats c.closer_now-now.new.seats still served.ensures.sit c.closer_now-now.ensures.only).sit

pub returns-in-Ok-clause-run : goal.returns-in-Ok-clause-run
returns-in-Ok-clause-run g c =
    let d = g.L.D.Desk in
    let p = g.P.Spawner in
    let t = tellers d.hand d.had d.dries d.faults p.asked p.told p.misses p.faults in
    let f = c.args.floor.now in
    let w = c.args.workers in
    let served = c.serve_announced-served in
    let still = closer_runs t f w c.args.seats.now served.new.seats served.ensures.run c.requires.closer in
    let two = reads t f w served.new.seats c.closer_now-now.new.seats still served.ensures.sit c.closer_now-now.ensures.only in
    all_then t f c.args.seats.now c.closer_now-now.new.seats c.finish.new.seats (all_then t f c.args.seats.now served.new.seats c.closer_now-now.new.seats served.ensures.run two.run) c.finish.ensures.run

pub returns-in-Ok-clause-made : goal.returns-in-Ok-clause-made
returns-in-Ok-clause-made g c = may_since end_call c.args.zero.now c.serve_announced-served.new.zero c.finish.new.zero c.serve_announced-served.ensures.looked.mine c.finish.ensures.made

pub returns-in-Ok-clause-quiet : goal.returns-in-Ok-clause-quiet
returns-in-Ok-clause-quiet g c = where_ok c.finish.result _ _ c.finish.ensures.quiet (quiet_since c.args.floor.now.opening.state c.args.zero.now c.serve_announced-served.new.zero c.finish.new.zero c.serve_announced-served.ensures.looked.mine)

pub returns-in-Ok-clause-over : goal.returns-in-Ok-clause-over
returns-in-Ok-clause-over g c =
    let d = g.L.D.Desk in
    let p = g.P.Spawner in
    let t = tellers d.hand d.had d.dries d.faults p.asked p.told p.misses p.faults in
    let f = c.args.floor.now in
    let w = c.args.workers in
    let served = c.serve_announced-served in
    let still = closer_runs t f w c.args.seats.now served.new.seats served.ensures.run c.requires.closer in
    let two = reads t f w served.new.seats c.closer_now-now.new.seats still served.ensures.sit c.closer_now-now.ensures.only in
    let rest = all_then t f served.new.seats c.closer_now-now.new.seats c.finish.new.seats two.run c.finish.ensures.run in
    on_ok c.finish.result (over_by t f c.args.zero.now served.new.zero c.finish.new.zero c.in-Ok.last c.args.seats.now served.new.seats c.finish.new.seats c.in-Ok.ensures.over served.ensures.run rest c.requires.number served.ensures.own served.ensures.same served.ensures.looked.mine c.in-Ok.ensures.last c.finish.ensures.seen)

pub returns-in-Ok-clause-written : goal.returns-in-Ok-clause-written
returns-in-Ok-clause-written g c = writes_on c.finish.result _ _ c.in-Ok.ensures.written.0

pub returns-in-Ok-clause-cause : goal.returns-in-Ok-clause-cause
returns-in-Ok-clause-cause g c =
    let faults = g.O.Sink.faults in
    let served = c.serve_announced-served in
    if_err c.finish.result _ _ c.finish.ensures.cause
    (λ h. of_finish c.args.floor.now.opening.limit (faults c.args.out.now) (faults served.new.out) c.args.zero.now served.new.zero c.finish.new.zero c.finish.new.seats h served.ensures.looked.mark)

pub returns-in-Err-clause-sit : goal.returns-in-Err-clause-sit
returns-in-Err-clause-sit g c =
    let d = g.L.D.Desk in
    let p = g.P.Spawner in
    let t = tellers d.hand d.had d.dries d.faults p.asked p.told p.misses p.faults in
    let f = c.args.floor.now in
    let w = c.args.workers in
    let served = c.serve_announced-served in
    let still = closer_runs t f w c.args.seats.now served.new.seats served.ensures.run c.requires.closer in
    (reads t f w served.new.seats c.closer_now-now.new.seats still served.ensures.sit c.closer_now-now.ensures.only).sit

pub returns-in-Err-clause-run : goal.returns-in-Err-clause-run
returns-in-Err-clause-run g c =
    let d = g.L.D.Desk in
    let p = g.P.Spawner in
    let t = tellers d.hand d.had d.dries d.faults p.asked p.told p.misses p.faults in
    let f = c.args.floor.now in
    let w = c.args.workers in
    let served = c.serve_announced-served in
    let still = closer_runs t f w c.args.seats.now served.new.seats served.ensures.run c.requires.closer in
    let two = reads t f w served.new.seats c.closer_now-now.new.seats still served.ensures.sit c.closer_now-now.ensures.only in
    all_then t f c.args.seats.now served.new.seats c.closer_now-now.new.seats served.ensures.run two.run

pub returns-in-Err-clause-made : goal.returns-in-Err-clause-made
returns-in-Err-clause-made g c = may_since end_call c.args.zero.now c.serve_announced-served.new.zero c.stop.new.zero c.serve_announced-served.ensures.looked.mine c.stop.ensures.made

pub returns-in-Err-clause-cause : goal.returns-in-Err-clause-cause
returns-in-Err-clause-cause g c =
    let d = g.L.D.Desk in
    let p = g.P.Spawner in
    let t = tellers d.hand d.had d.dries d.faults p.asked p.told p.misses p.faults in
    let f = c.args.floor.now in
    let w = c.args.workers in
    let faults = g.O.Sink.faults in
    let served = c.serve_announced-served in
    let still = closer_runs t f w c.args.seats.now served.new.seats served.ensures.run c.requires.closer in
    let two = reads t f w served.new.seats c.closer_now-now.new.seats still served.ensures.sit c.closer_now-now.ensures.only in
    of_rounds f.opening.limit (faults c.args.out.now) (faults served.new.out) c.args.zero.now served.new.zero c.stop.new.zero served.new.seats c.closer_now-now.new.seats c.in-Err.halt c.stop.result c.in-Err.ensures.cause two.halt served.ensures.looked.mark c.stop.ensures.cause

use Rattle.std.proofs.Common.{◌∙◌}
use Rattle.wm_serve.specs.Over.{WereDry}
use Rattle.wm_serve.specs.Seats.{tellers}
use Rattle.wm_serve.proofs.Closers.{reads}
use Rattle.wm_serve.proofs.Floors.{if_err, of_later}
use Rattle.wm_serve.proofs.Overs.{calls_made, calls_none, dry_before, finishes, of_three}
use Rattle.wm_serve.proofs.Running.{all_then}
use Rattle.wm_serve.proofs.Writing.{writes_err, writes_none}
use Rattle.wm_serve.proofs.serving.serve_floor.Goals as goal

pub returns-in_err-begin-clause-sit : goal.returns-in_err-begin-clause-sit
returns-in_err-begin-clause-sit g c =
    let d = g.L.D.Desk in
    let p = g.P.Spawner in
    let t = tellers d.hand d.had d.dries d.faults p.asked p.told p.misses p.faults in
    (reads t c.args.floor.now c.args.workers c.args.seats.now c.closer_now-now.new.seats c.requires.closer c.requires.sit c.closer_now-now.ensures.only).sit

pub returns-in_err-begin-clause-run : goal.returns-in_err-begin-clause-run
returns-in_err-begin-clause-run g c =
    let d = g.L.D.Desk in
    let p = g.P.Spawner in
    let t = tellers d.hand d.had d.dries d.faults p.asked p.told p.misses p.faults in
    (reads t c.args.floor.now c.args.workers c.args.seats.now c.closer_now-now.new.seats c.requires.closer c.requires.sit c.closer_now-now.ensures.only).run

pub returns-in_err-begin-clause-written : goal.returns-in_err-begin-clause-written
returns-in_err-begin-clause-written g c =
    writes_err c.from_residual.result _ _ c.from_residual.ensures.0 (writes_none (g.O.Sink.written c.args.out.now))

pub returns-in_err-begin-clause-calls : goal.returns-in_err-begin-clause-calls
returns-in_err-begin-clause-calls g c = calls_none c.args.ctl.now c.begin.new.zero.mine (c.in_err-begin.ensures.unmade ∙ c.requires.none)

pub returns-clause-run : goal.returns-clause-run
returns-clause-run g c =
    let d = g.L.D.Desk in
    let p = g.P.Spawner in
    let t = tellers d.hand d.had d.dries d.faults p.asked p.told p.misses p.faults in
    let f = c.args.floor.now in
    let one = reads t f c.args.workers c.args.seats.now c.closer_now-now.new.seats c.requires.closer c.requires.sit c.closer_now-now.ensures.only in
    all_then t f c.args.seats.now c.closer_now-now.new.seats c.serve_begun.new.seats one.run c.serve_begun.ensures.run

pub serve_begun-requires-clause-closer : goal.serve_begun-requires-clause-closer
serve_begun-requires-clause-closer g c κs within =
    let d = g.L.D.Desk in
    let p = g.P.Spawner in
    let t = tellers d.hand d.had d.dries d.faults p.asked p.told p.misses p.faults in
    (reads t c.args.floor.now c.args.workers c.args.seats.now c.closer_now-now.new.seats c.requires.closer c.requires.sit c.closer_now-now.ensures.only).closer

pub serve_begun-requires-clause-sit : goal.serve_begun-requires-clause-sit
serve_begun-requires-clause-sit g c κs within =
    let d = g.L.D.Desk in
    let p = g.P.Spawner in
    let t = tellers d.hand d.had d.dries d.faults p.asked p.told p.misses p.faults in
    (reads t c.args.floor.now c.args.workers c.args.seats.now c.closer_now-now.new.seats c.requires.closer c.requires.sit c.closer_now-now.ensures.only).sit

pub returns-clause-calls : goal.returns-clause-calls
returns-clause-calls g c = calls_made c.args.ctl.now c.args.zero.now c.begin.new.zero c.serve_begun.new.zero c.requires.none c.in_ok-begin.ensures.made c.serve_begun.ensures.made

pub returns-clause-finishes : goal.returns-clause-finishes
returns-clause-finishes g c =
    let d = g.L.D.Desk in
    let p = g.P.Spawner in
    let t = tellers d.hand d.had d.dries d.faults p.asked p.told p.misses p.faults in
    let f = c.args.floor.now in
    let w = c.args.workers in
    let begun = c.serve_begun in
    let one = reads t f w c.args.seats.now c.closer_now-now.new.seats c.requires.closer c.requires.sit c.closer_now-now.ensures.only in
    of_three begun.result _ _ _ _ begun.ensures.quiet begun.ensures.over begun.ensures.told
    (λ quiet over told. finishes (WereDry t f c.args.seats.now begun.new.seats) f.opening.state c.args.ctl.now begun.new.seats c.args.zero.now c.begin.new.zero begun.new.zero c.requires.none c.in_ok-begin.ensures.made begun.ensures.made quiet
    (dry_before t f c.args.seats.now c.closer_now-now.new.seats begun.new.seats one.run over)
    told)

pub returns-clause-cause : goal.returns-clause-cause
returns-clause-cause g c =
    let faults = g.O.Sink.faults in
    if_err c.serve_begun.result _ _ c.serve_begun.ensures.cause
    (λ h. of_later c.args.floor.now.opening.limit (faults c.args.out.now) (faults c.serve_begun.new.out) c.args.zero.now c.begin.new.zero c.serve_begun.new.zero c.serve_begun.new.seats h c.begin.ensures.mark)

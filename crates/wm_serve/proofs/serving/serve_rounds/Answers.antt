use Rattle.std.proofs.Common.{◌∙◌, arith, sym}
use Rattle.std.proofs.lemmas.List.Elements.{length_all_zip}
use Rattle.wm_serve.specs.Seats.{Runs, tellers}
use Rattle.wm_serve.proofs.Causing.{halt_of_one}
use Rattle.wm_serve.proofs.Closers.{all_none}
use Rattle.wm_serve.proofs.Looking.{looked_none, looked_then, same_none, same_then}
use Rattle.wm_serve.proofs.Running.{all_then}
use Rattle.wm_serve.proofs.serving.serve_rounds.Goals as goal

pub rounds-init : goal.rounds-init
rounds-init g c =
    let d = g.L.D.Desk in
    let p = g.P.Spawner in
    let t = tellers d.hand d.had d.dries d.faults p.asked p.told p.misses p.faults in
    record { next = tt; finite = tt; own = c.requires.own; same = same_none c.args.zero.now; looked = looked_none c.args.zero.now; workers = c.requires.workers; sit = c.requires.sit; run = all_none t c.args.floor.now c.args.seats.now c.requires.sit }

pub returns-in-Some-seats_halt-clause-run : goal.returns-in-Some-seats_halt-clause-run
returns-in-Some-seats_halt-clause-run g c =
    let d = g.L.D.Desk in
    let p = g.P.Spawner in
    let t = tellers d.hand d.had d.dries d.faults p.asked p.told p.misses p.faults in
    all_then t c.args.floor.now c.args.seats.now c.rounds.seats c.run_seats.new.seats c.rounds.invariant.run c.run_seats.ensures.run

pub returns-in-Some-seats_halt-clause-cause : goal.returns-in-Some-seats_halt-clause-cause
returns-in-Some-seats_halt-clause-cause g c = halt_of_one c.run_seats.new.seats c.in-Some-seats_halt.halt (sym c.seats_halt.ensures ∙ c.in-Some-seats_halt.is)

pub returns-then-not-matches-clause-looked : goal.returns-then-not-matches-clause-looked
returns-then-not-matches-clause-looked g c = looked_then c.args.zero.now c.rounds.zero c.pending-last.new.pass c.rounds.invariant.looked c.pending-last.ensures.looked

pub returns-then-not-matches-clause-run : goal.returns-then-not-matches-clause-run
returns-then-not-matches-clause-run g c =
    let d = g.L.D.Desk in
    let p = g.P.Spawner in
    let t = tellers d.hand d.had d.dries d.faults p.asked p.told p.misses p.faults in
    all_then t c.args.floor.now c.args.seats.now c.rounds.seats c.run_seats.new.seats c.rounds.invariant.run c.run_seats.ensures.run

pub rounds-preserved : goal.rounds-preserved
rounds-preserved g c =
    let d = g.L.D.Desk in
    let p = g.P.Spawner in
    let t = tellers d.hand d.had d.dries d.faults p.asked p.told p.misses p.faults in
    let f = c.args.floor.now in
    let so_far = c.rounds.invariant in
    let look = c.pending-last.ensures in
    record {
      next = tt;
      finite = tt;
      own = look.own;
      same = same_then c.args.zero.now c.rounds.zero c.pending-last.new.pass so_far.same look.same;
      looked = looked_then c.args.zero.now c.rounds.zero c.pending-last.new.pass so_far.looked look.looked;
      workers = omega (arith, so_far.workers, length_all_zip (Runs t f) c.rounds.seats c.run_seats.new.seats c.run_seats.ensures.run);
      sit = c.run_seats.ensures.sit;
      run = all_then t f c.args.seats.now c.rounds.seats c.run_seats.new.seats so_far.run c.run_seats.ensures.run;
    }

pub returns-then-not-matches-clause-last : goal.returns-then-not-matches-clause-last
returns-then-not-matches-clause-last g c = record { at = c.pending-last.ensures.at; pending = c.pending-last.ensures.pending }

use Rattle.std.proofs.Common.{◌∙◌, sym}
use Rattle.wm_serve.specs.Seats.{tellers}
use Rattle.wm_serve.proofs.Causing.{halt_of_one}
use Rattle.wm_serve.proofs.Closers.{all_none}
use Rattle.wm_serve.proofs.Looking.{looked_none, looked_then, same_none, same_then}
use Rattle.wm_serve.proofs.Overs.{all_unhalted}
use Rattle.wm_serve.proofs.Running.{all_then}
use Rattle.wm_serve.proofs.serving.drain.Goals as goal

pub turns-init : goal.turns-init
turns-init g c =
    let d = g.D.Desk in
    let p = g.P.Spawner in
    let t = tellers d.hand d.had d.dries d.faults p.asked p.told p.misses p.faults in
    record { next = tt; finite = tt; own = c.requires.own; same = same_none c.args.zero.now; looked = looked_none c.args.zero.now; sit = c.requires.sit; run = all_none t c.args.floor.now c.args.seats.now c.requires.sit }

pub returns-in-Some-seats_halt-clause-cause : goal.returns-in-Some-seats_halt-clause-cause
returns-in-Some-seats_halt-clause-cause g c = halt_of_one c.turns.seats c.in-Some-seats_halt.halt (sym c.seats_halt.ensures ∙ c.in-Some-seats_halt.is)

pub returns-then-pending-eq0-clause-looked : goal.returns-then-pending-eq0-clause-looked
returns-then-pending-eq0-clause-looked g c = looked_then c.args.zero.now c.turns.zero c.pending.new.pass c.turns.invariant.looked c.pending.ensures.looked

pub returns-then-pending-eq0-clause-told : goal.returns-then-pending-eq0-clause-told
returns-then-pending-eq0-clause-told g c =
    let d = g.D.Desk in
    let p = g.P.Spawner in
    let t = tellers d.hand d.had d.dries d.faults p.asked p.told p.misses p.faults in
    all_unhalted t c.args.floor.now c.turns.seats c.turns.invariant.sit (sym c.seats_halt.ensures ∙ c.in_default.is)

pub turns-preserved : goal.turns-preserved
turns-preserved g c =
    let d = g.D.Desk in
    let p = g.P.Spawner in
    let t = tellers d.hand d.had d.dries d.faults p.asked p.told p.misses p.faults in
    let so_far = c.turns.invariant in
    let look = c.pending.ensures in
    record {
      next = tt;
      finite = tt;
      own = look.own;
      same = same_then c.args.zero.now c.turns.zero c.pending.new.pass so_far.same look.same;
      looked = looked_then c.args.zero.now c.turns.zero c.pending.new.pass so_far.looked look.looked;
      sit = c.tend_all.ensures.sit;
      run = all_then t c.args.floor.now c.args.seats.now c.turns.seats c.tend_all.new.seats so_far.run c.tend_all.ensures.run;
    }

use Rattle.std.proofs.Common.{◌∷◌, ◌++◌, ◌<◌, All, [], arith, get_or, length, subst, sym}
use Rattle.std.proofs.lemmas.List.{get_or_default, length-append}
use Rattle.std.proofs.lemmas.List.Elements.{All-push, all_zip_more}
use Rattle.wm_serve.specs.Seats.{Runs, Sits, tellers}
use Rattle.wm_serve.proofs.Seatings.{changed_all, changed_more, unchanged_here}
use Rattle.wm_serve.proofs.serving.tend_all.Goals as goal

pub tend_seat-requires : goal.tend_seat-requires
tend_seat-requires g c =
    let d = g.D.Desk in
    let p = g.P.Spawner in
    let t = tellers d.hand d.had d.dries d.faults p.asked p.told p.misses p.faults in
    let xs = c.args.seats.now in
    let i = c.loop-seat.seat-index in
    let x = c.seat-item.result in
    let so_far = c.loop-seat.invariant in
    let lt : i < length xs = omega arith in
    record { sits = subst (Sits t c.args.floor.now) (sym (unchanged_here so_far.done xs c.loop-seat.seats i x lt so_far.long so_far.split)) (c.requires.sit i x lt) }

pub loop-seat-preserved : goal.loop-seat-preserved
loop-seat-preserved g c =
    let d = g.D.Desk in
    let p = g.P.Spawner in
    let t = tellers d.hand d.had d.dries d.faults p.asked p.told p.misses p.faults in
    let f = c.args.floor.now in
    let xs = c.args.seats.now in
    let ys = c.loop-seat.seats in
    let i = c.loop-seat.seat-index in
    let x = c.seat-item.result in
    let y = c.tend_seat.new.seat in
    let so_far = c.loop-seat.invariant in
    let lt : i < length xs = omega arith in
    let here = unchanged_here so_far.done xs ys i x lt so_far.long so_far.split in
    record {
      done = so_far.done ++ y ∷ [];
      long = omega (arith, length-append so_far.done (y ∷ []), so_far.long);
      split = changed_more so_far.done xs ys i x y lt so_far.long so_far.split;
      sit = All-push (Sits t f) so_far.done y so_far.sit c.tend_seat.ensures.sits;
      run = all_zip_more (Runs t f) xs so_far.done i (get_or xs i x) y lt (get_or_default xs i x (get_or xs i x) lt) so_far.run (subst (λ (s : _). Runs t f s y) here c.tend_seat.ensures.runs);
    }

pub returns-clause-sit : goal.returns-clause-sit
returns-clause-sit g c =
    let d = g.D.Desk in
    let p = g.P.Spawner in
    let t = tellers d.hand d.had d.dries d.faults p.asked p.told p.misses p.faults in
    let so_far = c.loop-seat.invariant in
    subst (All (Sits t c.args.floor.now)) (sym (changed_all so_far.done c.args.seats.now c.loop-seat.seats c.loop-seat.seat-index c.loop-seat-test.false so_far.split)) so_far.sit

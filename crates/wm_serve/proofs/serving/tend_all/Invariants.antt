use Rattle.std.proofs.Common.{◌≡◌, ◌++◌, List, All, drop, length, take}
use Rattle.std.specs.List.{AllZip}
use Rattle.wm_serve.specs.Seats.{Runs, Sits, tellers}
use Rattle.wm_serve.specs.declared.seat.Seat.{Seat}
use Rattle.wm_serve.proofs.serving.tend_all.Given as goal

-- the seats so far were tended, the others are as they were
abbrev pub invariant-loop-seat : goal.invariant-loop-seat
invariant-loop-seat g l =
    let d = g.D.Desk in
    let p = g.P.Spawner in
    let t = tellers d.hand d.had d.dries d.faults p.asked p.told p.misses p.faults in
    record {
      done : List (Seat _ _ _ _);
      long : length done ≡ l.seat-index;
      split : l.seats ≡ done ++ drop l.seat-index l.fn.seats;
      sit : All (Sits t l.floor) done;
      run : AllZip (Runs t l.floor) (take l.seat-index l.fn.seats) done;
    }

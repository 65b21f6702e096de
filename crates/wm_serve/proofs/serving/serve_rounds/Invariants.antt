use Rattle.std.proofs.Common.{◌≤◌, All, length}
use Rattle.std.specs.List.{AllZip}
use Rattle.wm_floor.specs.Floor.{HasLooked, IsPassOf, IsSame}
use Rattle.wm_serve.specs.Seats.{Runs, Sits, tellers}
use Rattle.wm_serve.proofs.serving.serve_rounds.Given as goal

-- the seats have run since the loop began, and pass 0 has looked on
abbrev pub invariant-rounds : goal.invariant-rounds
invariant-rounds g l =
    let d = g.L.D.Desk in
    let p = g.P.Spawner in
    let t = tellers d.hand d.had d.dries d.faults p.asked p.told p.misses p.faults in
    record {
      next : (goal.iterator-rounds g).can_next l.iterator';
      finite : (goal.iterator-rounds g).is_finite l.iterator';
      own : IsPassOf l.floor l.zero;
      same : IsSame l.fn.zero l.zero;
      looked : HasLooked l.fn.zero l.zero;
      workers : l.workers ≤ length l.seats;
      sit : All (Sits t l.floor) l.seats;
      run : AllZip (Runs t l.floor) l.fn.seats l.seats;
    }

use Rattle.std.proofs.Common.{◌≡◌, ◌++◌, All, None, drop, fold, map, take}
use Rattle.wm_floor.specs.Floor.{IsPassOf}
use Rattle.wm_turn.specs.Passed.{StartsWith}
use Rattle.wm_serve.specs.Seating.{left, with_pass}
use Rattle.wm_serve.specs.Done.{HasTold}
use Rattle.wm_serve.proofs.seating.leave_all.Given as goal

-- the seats so far have given their passes back, the others are as they were
abbrev pub invariant-loop-seat : goal.invariant-loop-seat
invariant-loop-seat g l = record {
  own : IsPassOf l.floor l.zero;
  zero : l.zero ≡ fold left l.fn.zero (take l.seat-index l.fn.seats);
  seats : l.seats ≡ map (with_pass None) (take l.seat-index l.fn.seats) ++ drop l.seat-index l.fn.seats;
  seen : StartsWith l.zero.seen l.fn.zero.seen;
  told : All (HasTold l.zero) (take l.seat-index l.fn.seats);
}
